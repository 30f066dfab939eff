-- The starts so far are written.
use Rattle.std.proofs.Common.{take}
use Rattle.cqf_output.specs.Writer.{Puts}
use Rattle.cqf_units.specs.Timing.{ticks_of_octet}
use Rattle.cqf_report.specs.Starts.{lines_of_port}
use Rattle.cqf_report.proofs.starts.put_each.Given as goal

abbrev pub invariant-loop-start : goal.invariant-loop-start
invariant-loop-start g l = Puts g.W.Write.contents l.initial.writer l.writer (lines_of_port (ticks_of_octet l.rate) (take l.start-index l.starts))
