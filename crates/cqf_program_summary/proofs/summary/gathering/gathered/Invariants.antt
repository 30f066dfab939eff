-- The offers so far are added, and the run is followed from the next one on.
use Rattle.std.proofs.Common.{ℕ, ◌*◌, Option}
use Rattle.cqf_units.specs.declared.timing.Nanos.{Nanos}
use Rattle.cqf_program_runs.specs.Deliveries.Ending.{over_of}
use Rattle.cqf_program_runs.specs.Deliveries.Following.{IsFollowed}
use Rattle.cqf_program_summary.specs.Summary.Counting.{SummaryWithin}
use Rattle.cqf_program_summary.specs.Summary.Gathering.{IsSummaryOfFirst}
use Rattle.cqf_program_summary.proofs.summary.gathering.gathered.Given as goal

abbrev pub invariant-loop-index : goal.invariant-loop-index
invariant-loop-index l = record {
  within : SummaryWithin (201 * l.index) l.sums;
  so_far : (whole : ℕ → ℕ → Option Nanos) → IsFollowed (over_of l.ended whole) 0 l.initial.under_way →
      IsFollowed (over_of l.ended whole) l.index l.under_way × IsSummaryOfFirst (over_of l.ended whole) l.index l.initial.sums l.sums;
}
