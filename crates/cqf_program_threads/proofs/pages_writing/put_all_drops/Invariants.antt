use Rattle.cqf_output.specs.Writer.{Puts}
use Rattle.cqf_report.specs.Books.{lines_of_drops}
use Rattle.cqf_trace.specs.Traces.{drops_in_cycles}
use Rattle.cqf_trace.specs.Reporting.{AreDropIndices}
use Rattle.cqf_program_threads.proofs.pages_writing.put_all_drops.Given as goal

-- the lines of the cycles so far are put, and the indexes are those at which these end
abbrev pub invariant-loop-cycle : goal.invariant-loop-cycle
invariant-loop-cycle g l = record {
  indices : AreDropIndices l.book.domain l.book.traces l.cycle l.indices;
  puts : Puts g.W.Write.contents l.initial.writer l.writer (lines_of_drops l.book.domain (drops_in_cycles l.book.domain l.book.traces l.cycle));
}
