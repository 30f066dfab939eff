use Rattle.std.proofs.Common.{take}
use Rattle.cqf_output.specs.Writer.{Puts}
use Rattle.cqf_report.specs.Books.{lines_of_drops}
use Rattle.cqf_report.proofs.books.put_drops.Given as goal

abbrev pub invariant-loop-dropped : goal.invariant-loop-dropped
invariant-loop-dropped g l = Puts g.W.Write.contents l.initial.writer l.writer (lines_of_drops l.domain (take l.dropped-index l.drops))
