-- Lists side by side: one list for each number below a bound.
use Rattle.std.specs.Prelude.{ℕ, ◌≡◌, ◌<◌, ◌++◌, List, [], ◌∷◌, length, map, slice_index_or}
use Rattle.std.specs.Global.{Global}
use Rattle.std.specs.declared.vec.Vec.{Vec}

-- the contents of the lists
abbrev pub lists_of : {A : Type 0} → List (Vec A Global) → List (List A)
lists_of {A} lists = map (λ (list : Vec A Global). list.items) lists

-- there are `count` lists, and the list at each index k below `count` is `reported k`
pub record AreListsBy {A : Type 0} (reported : ℕ → List A) (count : ℕ) (lists : List (List A)) : Type 0 where
  pub one_each : length lists ≡ count
  pub each : (k : ℕ) (none : List A) → k < count → slice_index_or lists k none ≡ reported k

-- list k with one more element at its end; the other lists, and the number of lists, are unchanged
pub record AddsTo {A : Type 0} (before after : List (List A)) (k : ℕ) (x : A) : Type 0 where
  pub as_many : length after ≡ length before
  pub own : (none : List A) → slice_index_or after k none ≡ slice_index_or before k none ++ x ∷ []
  pub others : (other : ℕ) (none : List A) → (other ≡ k → ⊥) → slice_index_or after other none ≡ slice_index_or before other none
