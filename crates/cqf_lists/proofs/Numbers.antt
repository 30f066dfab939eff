-- The numbers below a bound that pass a test.
use Rattle.std.proofs.Common.{◌≡◌, ℕ, zero, suc, ◌<◌, ◌≤◌, Bool, true, false, List, [], ◌∷◌, ◌++◌, if◌then◌else◌}
use Rattle.std.proofs.Common.{length, length-append, sym, ap, ap₂, refl, ◌∙◌, arith}
use Rattle.std.proofs.Common.{AllPairs, Contains, append-nil}
use Rattle.std.specs.List.{flat_map}
use Rattle.std.proofs.lemmas.List.Concat.{flat_map-append}
use Rattle.cqf_lists.specs.Lists.{each_below}
use Rattle.cqf_lists.proofs.EachBelow.{contains_from_below}
use Rattle.cqf_lists.proofs.Made.{contains_if_there}
use Rattle.cqf_lists.proofs.Members.{contains_one}
use Rattle.cqf_lists.proofs.Pairs.{pairs_below, pairs_none, pairs_one}

-- the numbers below a bound that pass a test
abbrev pub kept_below : (ℕ → Bool) → ℕ → List ℕ
kept_below test n = each_below (λ k. if test k then k ∷ [] else []) n

-- each of them is below the bound, and passes
pub kept_number : (test : ℕ → Bool) (n l : ℕ) → Contains (kept_below test n) l → (l < n) × (test l ≡ true)
kept_number test n l h =
    let w = contains_from_below (λ k. if test k then k ∷ [] else []) n l h in
    let t = contains_if_there (test w.0) (w.0 ∷ []) l w.2 in
    let e : w.0 ≡ l = contains_one w.0 l t.1 in
    (omega (arith, w.1, e), ap test (sym e) ∙ t.0)

-- there are at most as many as the bound
pub kept_length : (test : ℕ → Bool) (n : ℕ) → length (kept_below test n) ≤ n
kept_length test zero = omega arith
kept_length test (suc n) = omega (arith, kept_length test n, one (test n), length-append (kept_below test n) (if test n then n ∷ [] else []))
  where
    -- at most one
    one : (b : Bool) → length (if b then n ∷ [] else []) ≤ 1
    one true = omega arith
    one false = omega arith

-- the results for each of them, concatenated
pub made_of_kept : {X : Type 0} (test : ℕ → Bool) (g : ℕ → List X) (n : ℕ) →
    flat_map g (kept_below test n) ≡ each_below (λ k. if test k then g k else []) n
made_of_kept test g zero = refl
made_of_kept {X} test g (suc n) =
    flat_map-append g (kept_below test n) (if test n then n ∷ [] else [])
    ∙ ap₂ (λ (xs ys : List X). xs ++ ys) (made_of_kept test g n) (one (test n))
  where
    -- the result for one number
    one : (b : Bool) → flat_map g (if b then n ∷ [] else []) ≡ (if b then g n else [])
    one true = append-nil (g n)
    one false = refl

-- the numbers ascend
pub numbers_ascend : (test : ℕ → Bool) (n : ℕ) → AllPairs (λ (a b : ℕ). a < b) (kept_below test n)
numbers_ascend test n =
    pairs_below (λ (a b : ℕ). a < b) (λ k. if test k then k ∷ [] else []) n (λ k below. one (test k) k)
    (λ j k x y less below cx cy. omega (
      arith,
      less,
      contains_one j x (contains_if_there (test j) (j ∷ []) x cx).1,
      contains_one k y (contains_if_there (test k) (k ∷ []) y cy).1,
    ))
  where
    -- one number, or none
    one : (b : Bool) (k : ℕ) → AllPairs (λ (a c : ℕ). a < c) (if b then k ∷ [] else [])
    one true k = pairs_one (λ (a c : ℕ). a < c) k
    one false k = pairs_none (λ (a c : ℕ). a < c)
