use Rattle.std.proofs.Common.{◌≤◌, ◌∙◌, List, ap, arith, length, subst, sym}
use Rattle.cqf_model.specs.declared.topology.Hop.{Hop}
use Rattle.cqf_program_plans.proofs.EdgeGates.{few_kept}
use Rattle.cqf_program_plans.specs.Compile.Gated.{edge_hops}
use Rattle.cqf_program_plans.proofs.compile.gated.edge_tree.Goals as goal

-- no more hops are kept than the tree has
pub new-requires : goal.new-requires
new-requires c =
    let same = c.as_slice-2.ensures.value ∙ c.in_ok-hops.ensures in
    omega (arith, few_kept c.as_slice.result.now, c.as_slice.ensures.few, ap (λ (hops : List Hop). length hops) same)

pub returns : goal.returns
returns c = c.in_ok-edge.ensures ∙ c.as_slice-2.ensures.value ∙ c.in_ok-hops.ensures ∙ ap edge_hops c.as_slice.ensures.value
