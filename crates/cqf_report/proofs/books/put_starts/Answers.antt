use Rattle.std.proofs.Common.{◌+◌, take, arith}
use Rattle.std.proofs.lemmas.Grind.{common_steps}
use Rattle.cqf_output.proofs.WriterLemmas.{Puts-as, Puts-then}
use Rattle.cqf_report.specs.Books.{lines_of_starts}
use Rattle.cqf_report.proofs.books.put_starts.Goals as goal

pub loop-started-preserved : goal.loop-started-preserved
loop-started-preserved g c =
    let puts = Puts-then _ _ c.loop-started.invariant c.put_started.ensures in
    Puts-as _ (lines_of_starts c.args.what.now c.args.domain.now (take (c.loop-started.started-index + 1) c.args.starts.now)) (grind (arith, common_steps)) puts
