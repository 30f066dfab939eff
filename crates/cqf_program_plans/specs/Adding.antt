-- Sums by link, to which a stream is added.
use Rattle.std.specs.Prelude.{ℕ, ◌≡◌, ◌+◌, ◌<◌, List, if◌then◌else◌, length, slice_index_or}
use Rattle.cqf_model.specs.declared.topology.Row.{Row}
use Rattle.cqf_model.specs.Limits.{most_links}
use Rattle.cqf_model.specs.Table.{crosses}

-- the number is added to the sum of each link that the row's stream uses; the other sums are unchanged
pub record AddsWhere (before : List ℕ) (row : Row) (number : ℕ) (after : List ℕ) : Type 0 where
  pub all : length after ≡ most_links
  pub each : (l : ℕ) → l < most_links → slice_index_or after l 0 ≡ slice_index_or before l 0 + (if crosses row l then number else 0)
