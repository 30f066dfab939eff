-- The greatest of some numbers.
use Rattle.std.proofs.Common.{ℕ, ◌≤◌, ◌∷◌, [], List, Contains, ap, arith, fold, inl, inr, max}
use Rattle.cqf_lists.proofs.Members.{contains_cases, contains_none}

module _ {X : Type 0} (f : X → ℕ) where
  first_most : (xs : List X) (least : ℕ) → least ≤ fold (λ most (x : X). max most (f x)) least xs
  first_most [] least = omega arith
  first_most (x ∷ xs) least = omega (arith, first_most xs (max least (f x)))

  -- none is greater
  pub none_greater : (xs : List X) (least : ℕ) (x : X) → Contains xs x → f x ≤ fold (λ most (y : X). max most (f y)) least xs
  none_greater [] least x c = absurd (contains_none x c)
  none_greater (y ∷ xs) least x c = elim (contains_cases y xs x c) [
    | inl e ↦ omega (arith, first_most xs (max least (f y)), ap f e)
    | inr k ↦ none_greater xs (max least (f y)) x k
  ]
