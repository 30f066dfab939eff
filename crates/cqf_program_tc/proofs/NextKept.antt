-- What holds across the numbers that fail a test holds up to the next number that passes.
use Rattle.std.proofs.Common.{ℕ, zero, suc, ◌≡◌, ◌∙◌, ◌<◌, ◌≤◌, ◌+◌, ◌++◌, ◌⊎◌, Bool, true, false, List, [], ◌∷◌, if◌then◌else◌, inl, inr}
use Rattle.std.proofs.Common.{ap, append-nil, arith, get_or, length, length-append, refl, subst, sym}
use Rattle.std.proofs.lemmas.Bool.{cases_lt}
use Rattle.std.proofs.lemmas.List.{get_or_append_left, get_or_default, get_or_past, get_or_push}
use Rattle.cqf_lists.proofs.Numbers.{kept_below}

-- the number after the first i of a list
abbrev pub following : List ℕ → ℕ → ℕ
following xs zero = 0
following xs (suc i) = suc (get_or xs i 0)

after_front : (xs ys : List ℕ) (i : ℕ) → i ≤ length xs → following (xs ++ ys) i ≡ following xs i
after_front xs ys zero within = refl
after_front xs ys (suc i) within = ap suc (get_or_append_left xs ys 0 i (omega (arith, within)))

after_last : (xs : List ℕ) (n i : ℕ) → length xs < i → i ≤ length (xs ++ n ∷ []) → following (xs ++ n ∷ []) i ≡ suc n
after_last xs n zero more within = absurd (omega (arith, more))
after_last xs n (suc i) more within = ap suc (get_or_push xs n 0 i (omega (arith, more, within, length-append xs (n ∷ []))))

module _ (P : ℕ → Type 0) where
  -- with one more number that passes
  one_passes : (xs : List ℕ) (n i : ℕ) → i ≤ length (xs ++ n ∷ []) → (i ≤ length xs → P (following xs i) → P (get_or xs i n)) →
      P (following (xs ++ n ∷ []) i) → (i < length xs) ⊎ (length xs ≤ i) → P (get_or (xs ++ n ∷ []) i (suc n))
  one_passes xs n i within carried there (inl low) =
      subst P (get_or_default xs i n (suc n) low ∙ sym (get_or_append_left xs (n ∷ []) (suc n) i low))
      (carried (omega (arith, low)) (subst P (after_front xs (n ∷ []) i (omega (arith, low))) there))
  one_passes xs n i within carried there (inr high) = elim (cases_lt (length xs) i) [
    | inl more ↦
        subst P (after_last xs n i more within ∙ sym (get_or_past (xs ++ n ∷ []) i (suc n) (omega (arith, more, length-append xs (n ∷ [])))))
        there
    | inr less ↦
        subst P (get_or_past xs i n high ∙ sym (get_or_push xs n (suc n) i (omega (arith, high, less))))
        (carried less (subst P (after_front xs (n ∷ []) i less) there))
  ]

  -- with one more number that fails
  none_passes : (xs : List ℕ) (n i : ℕ) → i ≤ length xs → (P (following xs i) → P (get_or xs i n)) → (P n → P (suc n)) → P (following xs i) →
      (i < length xs) ⊎ (length xs ≤ i) → P (get_or xs i (suc n))
  none_passes xs n i within carried idle there (inl low) = subst P (get_or_default xs i n (suc n) low) (carried there)
  none_passes xs n i within carried idle there (inr high) =
      subst P (sym (get_or_past xs i (suc n) high)) (idle (subst P (get_or_past xs i n high) (carried there)))

  one_more : (xs : List ℕ) (n i : ℕ) (b : Bool) → i ≤ length (xs ++ (if b then n ∷ [] else [])) →
      (i ≤ length xs → P (following xs i) → P (get_or xs i n)) → (b ≡ false → P n → P (suc n)) → P (following (xs ++ (if b then n ∷ [] else [])) i) →
      P (get_or (xs ++ (if b then n ∷ [] else [])) i (suc n))
  one_more xs n i true within carried idle there = one_passes xs n i within carried there (cases_lt i (length xs))
  one_more xs n i false within carried idle there =
      let same = append-nil xs in
      let inside : i ≤ length xs = subst (λ (l : List ℕ). i ≤ length l) same within in
      subst (λ (l : List ℕ). P (get_or l i (suc n))) (sym same)
      (none_passes xs n i inside (carried inside) (idle refl) (subst (λ (l : List ℕ). P (following l i)) same there) (cases_lt i (length xs)))

  -- from just after a number that passes to the next one that passes, or to the end
  pub to_next : (test : ℕ → Bool) (n i : ℕ) → ((k : ℕ) → k < n → test k ≡ false → P k → P (suc k)) → i ≤ length (kept_below test n) →
      P (following (kept_below test n) i) → P (get_or (kept_below test n) i n)
  to_next test zero zero idle within there = there
  to_next test zero (suc i) idle within there = absurd (omega (arith, within))
  to_next test (suc n) i idle within there =
      one_more (kept_below test n) n i (test n) within (to_next test n i (λ k l. idle k (omega (arith, l)))) (idle n (omega arith)) there
