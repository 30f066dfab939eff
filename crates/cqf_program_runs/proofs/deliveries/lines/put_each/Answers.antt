use Rattle.std.proofs.Common.{◌+◌, take, arith}
use Rattle.std.proofs.lemmas.Grind.{common_steps}
use Rattle.cqf_output.proofs.WriterLemmas.{Puts-as, Puts-then}
use Rattle.cqf_program_runs.specs.Deliveries.Text.{lines_of_deliveries}
use Rattle.cqf_program_runs.proofs.deliveries.lines.put_each.Goals as goal

pub loop-delivery-preserved : goal.loop-delivery-preserved
loop-delivery-preserved g c =
    let puts = Puts-then _ _ c.loop-delivery.invariant c.put_delivery.ensures in
    Puts-as _ (lines_of_deliveries (take (c.loop-delivery.delivery-index + 1) c.args.deliveries.now)) (grind (arith, common_steps)) puts
