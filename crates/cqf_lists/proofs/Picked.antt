-- A test that keeps elements of one list only, among the lists of the numbers below a bound.
use Rattle.std.proofs.Common.{◌≡◌, ℕ, zero, suc, ◌<◌, ◌++◌, [], List, Bool, false, filter, inl, inr, ap, ◌∙◌, arith, Contains, append-nil}
use Rattle.std.proofs.lemmas.Bool.{cases_eq}
use Rattle.std.proofs.lemmas.List.Elements.{filter-append}
use Rattle.cqf_lists.specs.Lists.{each_below}
use Rattle.cqf_lists.proofs.EachBelow.{contains_from_below, filter_none}

-- if a test fails on all lists but one, filtering their concatenation is filtering that list
pub filter_one : {X : Type 0} (p : X → Bool) (f : ℕ → List X) (n k : ℕ) → k < n → ((j : ℕ) (x : X) → (j ≡ k → ⊥) → Contains (f j) x → p x ≡ false) →
    filter p (each_below f n) ≡ filter p (f k)
filter_one p f zero k l apart = absurd (omega (arith, l))
filter_one {X} p f (suc n) k l apart =
    let split = filter-append p (each_below f n) (f n) in
    elim (cases_eq n k) [
      | inl e ↦
          let before : filter p (each_below f n) ≡ [] =
          filter_none p (each_below f n) (λ x h. let w = contains_from_below f n x h in apart w.0 x (λ same. omega (arith, same, e, w.1)) w.2) in
          split ∙ ap (λ (xs : List X). xs ++ filter p (f n)) before ∙ ap (λ (j : ℕ). filter p (f j)) e
      | inr differ ↦
          let following : filter p (f n) ≡ [] = filter_none p (f n) (λ x h. apart n x differ h) in
          let here : filter p (each_below f n) ≡ filter p (f k) = filter_one p f n k (less differ) apart in
          split ∙ ap (λ (xs : List X). filter p (each_below f n) ++ xs) following ∙ append-nil (filter p (each_below f n)) ∙ here
    ]
  where
    -- a number that isn't the last is below the last
    less : (n ≡ k → ⊥) → k < n
    less differ = omega (arith, l, differ)
