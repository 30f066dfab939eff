use Rattle.std.proofs.Common.{take}
use Rattle.cqf_output.specs.Writer.{Puts}
use Rattle.cqf_report.specs.Books.{lines_of_starts}
use Rattle.cqf_report.proofs.books.put_starts.Given as goal

abbrev pub invariant-loop-started : goal.invariant-loop-started
invariant-loop-started g l = Puts g.W.Write.contents l.initial.writer l.writer (lines_of_starts l.what l.domain (take l.started-index l.starts))
