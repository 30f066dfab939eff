-- The lines of the deliveries of the offers so far are put, and the run is followed from the next one on.
use Rattle.std.proofs.Common.{ℕ, Option, take}
use Rattle.cqf_units.specs.declared.timing.Nanos.{Nanos}
use Rattle.cqf_model.specs.Policing.{numbered}
use Rattle.cqf_output.specs.Writer.{Puts}
use Rattle.cqf_program_runs.specs.Deliveries.Text.{lines_of_deliveries}
use Rattle.cqf_program_runs.specs.Deliveries.Ending.{deliveries_among, over_of}
use Rattle.cqf_program_runs.specs.Deliveries.Following.{IsFollowed}
use Rattle.cqf_program_runs.proofs.deliveries.lines.put_all.Given as goal

abbrev pub invariant-loop-index : goal.invariant-loop-index
invariant-loop-index g l = (whole : ℕ → ℕ → Option Nanos) → IsFollowed (over_of l.ended whole) 0 l.initial.under_way →
    IsFollowed (over_of l.ended whole) l.index l.under_way
    × Puts g.W.Write.contents l.initial.writer l.writer
    (lines_of_deliveries (deliveries_among (over_of l.ended whole) (take l.index (numbered l.ended.offers.now))))
