use Rattle.std.proofs.Common.{map, take}
use Rattle.cqf_output.specs.Writer.{Puts}
use Rattle.cqf_report.specs.Books.{lines_of_starts}
use Rattle.cqf_trace.specs.Traces.{started_in}
use Rattle.cqf_program_threads.proofs.pages_writing.put_on_link.Given as goal

-- the lines of the marks so far are put
abbrev pub invariant-loop-mark : goal.invariant-loop-mark
invariant-loop-mark g l =
    Puts g.W.Write.contents l.initial.writer l.writer
    (lines_of_starts l.part.what.now l.part.domain.now (map (started_in l.fn.cycle.0 l.fn.link) (take l.mark-index l.own)))
