use Rattle.std.proofs.Common.{◌+◌, take, arith}
use Rattle.std.proofs.lemmas.Grind.{common_steps}
use Rattle.cqf_output.proofs.WriterLemmas.{Puts-as, Puts-then}
use Rattle.cqf_report.specs.Books.{lines_of_drops}
use Rattle.cqf_report.proofs.books.put_drops.Goals as goal

pub loop-dropped-preserved : goal.loop-dropped-preserved
loop-dropped-preserved g c =
    let puts = Puts-then _ _ c.loop-dropped.invariant c.put_dropped.ensures in
    Puts-as _ (lines_of_drops c.args.domain.now (take (c.loop-dropped.dropped-index + 1) c.args.drops.now)) (grind (arith, common_steps)) puts
