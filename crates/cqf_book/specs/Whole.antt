-- The least number of pages over some bridges.
use Rattle.std.specs.Prelude.{ℕ, ◌≡◌, ◌<◌, ◌≤◌, ◌⊎◌, List, [], length, slice_index_or}
use Rattle.cqf_model.specs.declared.frames.Page.{Page}

-- the least number of pages of the first `count` bridges, but at most the number of cycles
pub record IsLeastBelow (rows : List (List Page)) (cycles count least : ℕ) : Type 0 where
  pub within : least ≤ cycles
  pub each : (bridge : ℕ) → bridge < count → least ≤ length (slice_index_or rows bridge [])
  pub most : (more : ℕ) → more ≤ cycles → ((bridge : ℕ) → bridge < count → more ≤ length (slice_index_or rows bridge [])) → more ≤ least
  pub some : (least ≡ cycles) ⊎ ((bridge : ℕ) × (bridge < count) × (length (slice_index_or rows bridge []) ≡ least))
