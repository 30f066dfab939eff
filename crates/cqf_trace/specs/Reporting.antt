-- How far traces have been read.
use Rattle.std.specs.Prelude.{ℕ, ◌≤◌, ◌<◌, List, length, slice_index}
use Rattle.cqf_model.specs.Domain.{Domain}
use Rattle.cqf_trace.specs.declared.traces.TransmissionKind.{TransmissionKind}
use Rattle.cqf_trace.specs.declared.traces.Traces.{Traces}
use Rattle.cqf_trace.specs.Traces.{IsDropsEndBefore, IsEndBefore, drops_at, marks_at}

-- for each link, the index where the cycles before `cycle` end on its trace; there may be indices of more links
pub record AreIndices (d : Domain) (kind : TransmissionKind) (traces : Traces) (cycle : ℕ) (indices : List ℕ) : Type 0 where
  pub many : length d.links ≤ length indices
  pub ends : (link : ℕ) → link < length d.links → IsEndBefore d cycle (marks_at kind traces link) (slice_index indices link)

-- for each bridge, the index where the cycles before `cycle` end among its drops; there may be indices of more bridges
pub record AreDropIndices (d : Domain) (traces : Traces) (cycle : ℕ) (indices : List ℕ) : Type 0 where
  pub many : length d.bridges ≤ length indices
  pub ends : (bridge : ℕ) → bridge < length d.bridges → IsDropsEndBefore cycle (drops_at traces bridge) (slice_index indices bridge)
