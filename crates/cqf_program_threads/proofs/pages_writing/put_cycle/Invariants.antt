use Rattle.cqf_output.specs.Writer.{Puts}
use Rattle.cqf_report.specs.Books.{lines_of_starts}
use Rattle.cqf_trace.specs.Traces.{reported_on_links}
use Rattle.cqf_program_threads.proofs.Indices.{AreAfterLinks}
use Rattle.cqf_program_threads.proofs.pages_writing.put_cycle.Given as goal

-- the lines of the links so far are put, and their indexes are after the cycle
abbrev pub invariant-loop-link : goal.invariant-loop-link
invariant-loop-link g l = record {
  indices : AreAfterLinks l.part.domain.now l.part.kind l.part.traces.now l.fn.cycle.0 l.link l.indices;
  puts : Puts g.W.Write.contents l.initial.writer l.writer
      (lines_of_starts l.part.what.now l.part.domain.now (reported_on_links l.part.domain.now l.part.kind l.part.traces.now l.fn.cycle.0 l.link));
}
