use Rattle.std.proofs.Common.{◌+◌, take, arith}
use Rattle.std.proofs.lemmas.Grind.{common_steps}
use Rattle.cqf_output.proofs.WriterLemmas.{Puts-as, Puts-then}
use Rattle.cqf_program_plans.specs.Load.Access.{lines_of_access}
use Rattle.cqf_program_plans.proofs.load.reported.put_all_access.Goals as goal

pub loop-load-preserved : goal.loop-load-preserved
loop-load-preserved g c =
    let puts = Puts-then _ _ c.loop-load.invariant c.put_access.ensures in
    Puts-as _ (lines_of_access (take (c.loop-load.load-index + 1) c.args.loads.now)) (grind (arith, common_steps)) puts
