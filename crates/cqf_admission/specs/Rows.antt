-- Rows of streams, and when their costs can be added to sums.
use Rattle.std.specs.Prelude.{ℕ, ◌≢◌, ◌<◌, ◌≤◌, All, AllPairs, Some}
use Rattle.cqf_units.specs.declared.reservations.Cycle.{Cycle}
use Rattle.cqf_model.specs.declared.topology.Row.{Row}
use Rattle.cqf_model.specs.Table.{links_of}
use Rattle.cqf_model.specs.Limits.{most_overhead, most_reserved}
use Rattle.cqf_admission.specs.ActiveCycles.{IsOfGoodPace}

-- a row with its stream withdrawn from a cycle on
abbrev pub ended : Row → Cycle → Row
ended row cycle = record row { withdrawn = Some cycle }

-- what the row costs can be added to the sums of this number of links: it reserves no more octets than a stream may; its gates leave no
-- more octets of a frame uncounted than they may; and its links are among these, each once
pub record IsCountable (links : ℕ) (row : Row) : Type 0 where
  pub octets : row.octets ≤ most_reserved
  pub overhead : row.overhead ≤ most_overhead
  pub inside : All (λ (l : ℕ). l < links) (links_of row)
  pub apart : AllPairs (λ (a b : ℕ). a ≢ b) (links_of row)

-- the row also has a good pace, so that its cost can be added to the sums by link and cycle
pub record IsSummable (links : ℕ) (row : Row) : Type 0 where
  pub countable : IsCountable links row
  pub paced : IsOfGoodPace row
