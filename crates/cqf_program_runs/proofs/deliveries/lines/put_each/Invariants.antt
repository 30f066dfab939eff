use Rattle.std.proofs.Common.{take}
use Rattle.cqf_output.specs.Writer.{Puts}
use Rattle.cqf_program_runs.specs.Deliveries.Text.{lines_of_deliveries}
use Rattle.cqf_program_runs.proofs.deliveries.lines.put_each.Given as goal

abbrev pub invariant-loop-delivery : goal.invariant-loop-delivery
invariant-loop-delivery g l = Puts g.W.Write.contents l.initial.writer l.writer (lines_of_deliveries (take l.delivery-index l.deliveries))
