-- The least number below a bound that passes a test, and the first answer that is there.
use Rattle.std.proofs.Common.{◌≡◌, ℕ, ◌<◌, Bool, true, false, List, Option, Some, None, refl, inl, inr, arith, subst}
use Rattle.std.specs.Prelude.{[], ◌∷◌, ◌++◌, if◌then◌else◌, option_map, zero, suc}
use Rattle.std.proofs.lemmas.Bool.{cases_lt}
use Rattle.cqf_lists.specs.Lists.{each_below, least, or_else}
use Rattle.cqf_lists.proofs.Indices.{nil_from_none}

-- if a concatenation is empty, both its lists are
append_nil_parts : {X : Type 0} (xs ys : List X) → xs ++ ys ≡ [] → (xs ≡ []) × (ys ≡ [])
append_nil_parts [] ys e = (refl, e)
append_nil_parts (x ∷ xs) ys e = absurd cc

-- if there is no least number, no number below the bound passes
pub least_none : (test : ℕ → Bool) (n : ℕ) → least test n ≡ None → (k : ℕ) → k < n → test k ≡ false
least_none test n e = none_listed n (nil_from_none (each_below (λ k. if test k then k ∷ [] else []) n) e)
  where
    -- a number that isn't listed fails the test
    not_listed : (b : Bool) (k : ℕ) → (if b then k ∷ [] else []) ≡ [] → b ≡ false
    not_listed true k h = absurd cc
    not_listed false k h = refl

    -- if no number below a bound is listed, none passes
    none_listed : (m : ℕ) → each_below (λ k. if test k then k ∷ [] else []) m ≡ [] → (k : ℕ) → k < m → test k ≡ false
    none_listed zero h k l = absurd (omega (arith, l))
    none_listed (suc m) h k l =
        let parts = append_nil_parts (each_below (λ k. if test k then k ∷ [] else []) m) (if test m then m ∷ [] else []) h in
        elim (cases_lt k m) [
          | inl s ↦ none_listed m parts.0 k s
          | inr g ↦ let same : m ≡ k = omega (arith, g, l) in subst (λ (i : ℕ). test i ≡ false) same (not_listed (test m) m parts.1)
        ]

-- if there is no answer, neither of the two is there
pub or_else_none : {A : Type 0} (a b : Option A) → or_else a b ≡ None → (a ≡ None) × (b ≡ None)
or_else_none None b e = (refl, e)
or_else_none (Some x) b e = absurd cc

-- an option that is none after mapping was none before
pub unmapped_none : {A B : Type 0} (f : A → B) (o : Option A) → option_map f o ≡ None → o ≡ None
unmapped_none f None e = refl
unmapped_none f (Some x) e = absurd cc
