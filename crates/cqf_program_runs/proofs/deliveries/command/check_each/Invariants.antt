-- None of the deliveries so far is bad, all are counted, and the run is followed from the next offer on.
use Rattle.std.proofs.Common.{ℕ, Option}
use Rattle.cqf_units.specs.declared.timing.Nanos.{Nanos}
use Rattle.cqf_program_runs.specs.Check.Counting.{GoesWellSoFar}
use Rattle.cqf_program_runs.specs.Deliveries.Ending.{over_of}
use Rattle.cqf_program_runs.specs.Deliveries.Following.{IsFollowed}
use Rattle.cqf_program_runs.proofs.deliveries.command.check_each.Given as goal

abbrev pub invariant-loop-index : goal.invariant-loop-index
invariant-loop-index l = (whole : ℕ → ℕ → Option Nanos) → IsFollowed (over_of l.ended whole) 0 l.initial.under_way →
    IsFollowed (over_of l.ended whole) l.index l.under_way × GoesWellSoFar (over_of l.ended whole) l.fn.offers l.index l.counts
