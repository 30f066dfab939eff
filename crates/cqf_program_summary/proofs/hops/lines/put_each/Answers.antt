use Rattle.std.proofs.Common.{◌+◌, take, arith}
use Rattle.std.proofs.lemmas.Grind.{common_steps}
use Rattle.cqf_output.proofs.WriterLemmas.{Puts-as, Puts-then}
use Rattle.cqf_program_summary.specs.Hops.Text.{lines_of_legs}
use Rattle.cqf_program_summary.proofs.hops.lines.put_each.Goals as goal

pub loop-leg-preserved : goal.loop-leg-preserved
loop-leg-preserved g c =
    let puts = Puts-then _ _ c.loop-leg.invariant c.put_leg.ensures in
    Puts-as _ (lines_of_legs c.args.domain.now c.args.offers.now (take (c.loop-leg.leg-index + 1) c.args.legs.now)) (grind (arith, common_steps)) puts
