-- Lists with ascending keys.
use Rattle.std.proofs.Common.{◌≡◌, ℕ, zero, suc, ◌<◌, ◌≤◌, ◌==◌, ◌∷◌, ◌++◌, [], List, filter, inl, inr, sym, refl, ap, ◌∙◌, arith, subst, eq-eqb, ne_eqb}
use Rattle.std.proofs.Common.{Contains}
use Rattle.std.specs.List.Sorted.{IsNonDecreasingBy}
use Rattle.std.proofs.lemmas.Bool.{cases_eq, cond-false, cond-true}
use Rattle.cqf_lists.specs.Lists.{each_below}
use Rattle.cqf_lists.proofs.Members.{contains_here, contains_later}
use Rattle.cqf_lists.proofs.EachBelow.{filter_none, none_below}

module _ {X : Type 0} where
  -- one list has one more element at its front, and the lists before it are empty: so has their concatenation
  one_more_first : (f g : ℕ → List X) (n k : ℕ) (x : X) → k < n → ((j : ℕ) → j < k → g j ≡ []) → ((j : ℕ) → (j ≡ k → ⊥) → f j ≡ g j) → f k ≡ x ∷ g k →
      each_below f n ≡ x ∷ each_below g n
  one_more_first f g zero k x l none same more = absurd (omega (arith, l))
  one_more_first f g (suc n) k x l none same more =
      elim (cases_eq n k) [
        | inl e ↦
            let at : (j : ℕ) → j < n → g j ≡ [] = λ j m. none j (omega (arith, m, e)) in
            let none_before : each_below f n ≡ [] = none_below f n (λ j m. same j (λ h. omega (arith, h, m, e)) ∙ at j m) in
            let here : f n ≡ x ∷ g n = subst (λ (j : ℕ). f j ≡ x ∷ g j) (sym e) more in
            ap (λ (xs : List X). xs ++ f n) none_before ∙ here ∙ ap (λ (xs : List X). x ∷ xs ++ g n) (sym (none_below g n at))
        | inr differ ↦
            let before : each_below f n ≡ x ∷ each_below g n = one_more_first f g n k x (less differ) none same more in
            ap (λ (xs : List X). xs ++ f n) before ∙ ap (λ (xs : List X). x ∷ each_below g n ++ xs) (same n differ)
      ]
    where
      less : (n ≡ k → ⊥) → k < n
      less differ = omega (arith, l, differ)

  -- a list with ascending keys is the concatenation, key by key, of its elements with that key
  pub by_key : (key : X → ℕ) (n : ℕ) (xs : List X) → IsNonDecreasingBy key xs → ((x : X) → Contains xs x → key x < n) →
      xs ≡ each_below (λ t. filter (λ x. key x == t) xs) n
  by_key key n [] ascends below = sym (none_below (λ t. []) n (λ t l. refl))
  by_key key n (x ∷ xs) ascends below =
      let f = λ (t : ℕ). filter (λ (y : X). key y == t) (x ∷ xs) in
      let g = λ (t : ℕ). filter (λ (y : X). key y == t) xs in
      let up : (y : X) → Contains xs y → key x ≤ key y =
      λ y h. omega (arith, ascends 0 (suc h.0) y (omega arith) (omega (arith, h.1)), ap key h.2) in
      let rest : xs ≡ each_below g n =
      by_key key n xs (λ i j z le l. ascends (suc i) (suc j) z (omega (arith, le)) (omega (arith, l))) (λ y h. below y (contains_later x xs y h)) in
      let first : each_below f n ≡ x ∷ each_below g n =
      one_more_first f g n (key x) x (below x (contains_here x xs))
      (λ t l. filter_none (λ (y : X). key y == t) xs (λ y h. ne_eqb (key y) t (λ e. omega (arith, e, l, up y h))))
      (λ t differ. cond-false (key x == t) (x ∷ g t) (g t) (ne_eqb (key x) t (λ e. differ (sym e))))
      (cond-true (key x == key x) (x ∷ g (key x)) (g (key x)) (eq-eqb (key x) (key x) refl)) in
      ap (λ (ys : List X). x ∷ ys) rest ∙ sym first
