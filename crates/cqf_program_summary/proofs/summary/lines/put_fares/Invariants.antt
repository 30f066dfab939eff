use Rattle.std.proofs.Common.{take}
use Rattle.cqf_output.specs.Writer.{Puts}
use Rattle.cqf_program_summary.specs.Summary.Text.{lines_of_fares}
use Rattle.cqf_program_summary.proofs.summary.lines.put_fares.Given as goal

abbrev pub invariant-loop-each : goal.invariant-loop-each
invariant-loop-each g l = Puts g.W.Write.contents l.initial.writer l.writer (lines_of_fares (take l.each-index l.fares))
