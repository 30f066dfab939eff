-- Properties of each element of a list by its index.
use Rattle.std.specs.Prelude.{ℕ, ◌≡◌, ◌<◌, List, length, slice_index_or}

-- there are `count` elements, and each has this property at its index
pub record EachIs {X : Type 0} (Is : ℕ → X → Type 0) (count : ℕ) (xs : List X) : Type 0 where
  pub one_each : length xs ≡ count
  pub each : (k : ℕ) (e : X) → k < count → Is k (slice_index_or xs k e)
