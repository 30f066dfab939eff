use Rattle.std.proofs.Common.{◌+◌, take, arith}
use Rattle.std.specs.List.{flat_map}
use Rattle.std.proofs.lemmas.Grind.{common_steps}
use Rattle.cqf_output.proofs.WriterLemmas.{Puts-as, Puts-then}
use Rattle.cqf_program_tc.specs.Bridge.{out_variable}
use Rattle.cqf_program_tc.proofs.bridges.put_out_variables.Goals as goal

pub loop-hop-preserved : goal.loop-hop-preserved
loop-hop-preserved g c =
    let puts = Puts-then _ _ c.loop-hop.invariant c.put_out_variable.ensures in
    Puts-as _ (flat_map (out_variable c.args.plan.domain.now c.args.bridge) (take (c.loop-hop.hop-index + 1) c.as_slice-hop-items.result.now))
    (grind (arith, common_steps)) puts
