use Rattle.std.proofs.Common.{take}
use Rattle.cqf_output.specs.Writer.{Puts}
use Rattle.cqf_program_summary.specs.Hops.Text.{lines_of_legs}
use Rattle.cqf_program_summary.proofs.hops.lines.put_each.Given as goal

abbrev pub invariant-loop-leg : goal.invariant-loop-leg
invariant-loop-leg g l = Puts g.W.Write.contents l.initial.writer l.writer (lines_of_legs l.domain l.offers (take l.leg-index l.legs))
