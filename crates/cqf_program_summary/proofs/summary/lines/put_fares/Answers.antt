use Rattle.std.proofs.Common.{◌+◌, take, arith}
use Rattle.std.proofs.lemmas.Grind.{common_steps}
use Rattle.cqf_output.proofs.WriterLemmas.{Puts-as, Puts-then}
use Rattle.cqf_program_summary.specs.Summary.Text.{lines_of_fares}
use Rattle.cqf_program_summary.proofs.summary.lines.put_fares.Goals as goal

pub loop-each-preserved : goal.loop-each-preserved
loop-each-preserved g c =
    let puts = Puts-then _ _ c.loop-each.invariant c.put_fare.ensures in
    Puts-as _ (lines_of_fares (take (c.loop-each.each-index + 1) c.args.fares.now)) (grind (arith, common_steps)) puts
