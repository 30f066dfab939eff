use Rattle.cqf_output.specs.Writer.{Puts}
use Rattle.cqf_report.specs.Books.{lines_of_drops}
use Rattle.cqf_trace.specs.Traces.{drops_at_bridges}
use Rattle.cqf_program_threads.proofs.Indices.{AreAfterBridges}
use Rattle.cqf_program_threads.proofs.pages_writing.put_drops_of_cycle.Given as goal

-- the lines of the bridges so far are put, and their indexes are after the cycle
abbrev pub invariant-loop-bridge : goal.invariant-loop-bridge
invariant-loop-bridge g l = record {
  indices : AreAfterBridges l.domain l.traces l.fn.cycle.0 l.bridge l.indices;
  puts : Puts g.W.Write.contents l.initial.writer l.writer (lines_of_drops l.domain (drops_at_bridges l.traces l.fn.cycle.0 l.bridge));
}
