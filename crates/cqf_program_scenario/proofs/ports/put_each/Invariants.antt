use Rattle.std.proofs.Common.{map, take}
use Rattle.cqf_port.specs.PortState.{start_of}
use Rattle.cqf_output.specs.Writer.{Puts}
use Rattle.cqf_report.specs.Starts.{lines_of_port}
use Rattle.cqf_units.specs.Timing.{ticks_of_octet}
use Rattle.cqf_program_scenario.proofs.ports.put_each.Given as goal

abbrev pub invariant-loop-start : goal.invariant-loop-start
invariant-loop-start g l = Puts g.W.Write.contents l.initial.writer l.writer
    (lines_of_port (ticks_of_octet l.rate) (map (start_of l.arrivals) (take l.start-index l.starts)))
