use Rattle.std.proofs.Common.{◌∙◌, ◌<◌, All, List, length, subst, sym}
use Rattle.cqf_admission.specs.Branches.{branches_of, tree_refusal}
use Rattle.cqf_model.specs.declared.topology.Hop.{Hop}
use Rattle.cqf_model.specs.History.{held_in, seals}
use Rattle.cqf_model.proofs.Hops.{hops_inside}
use Rattle.cqf_program_placing.specs.declared.active_cycles.ActiveCycles.{ActiveCycles}
use Rattle.cqf_program_placing.specs.Known.{MakeTree}
use Rattle.cqf_program_placing.specs.ActiveCycles.{IsPhaseAlong}
use Rattle.cqf_program_placing.proofs.Known.{none_chosen}
use Rattle.cqf_program_placing.proofs.phases.phase_along.Goals as goal

pub least_loaded-requires-clause-inside : goal.least_loaded-requires-clause-inside
least_loaded-requires-clause-inside c =
    let d = c.args.domain.now in
    let paths = branches_of c.args.branched.now.paths.items in
    let made = subst (MakeTree d paths) c.in-Some.is c.requires.tree in
    subst (λ (hops : List Hop). All (λ (hop : Hop). hop.link < length d.links) hops) (sym (c.as_slice.ensures.value ∙ made.1)) (hops_inside d paths)

-- without a tree nothing is chosen
pub returns-in-None : goal.returns-in-None
returns-in-None c =
    let d = c.args.domain.now in
    let entries = c.args.admission.now.entries in
    let rows = held_in d entries (seals entries) in
    let paths = branches_of c.args.branched.now.paths.items in
    let made = subst (MakeTree d paths) c.in-None.is c.requires.tree in
    subst (λ (active_cycles : ActiveCycles). IsPhaseAlong d rows c.args.cost paths active_cycles 0) (sym c.in-Chosen.is)
    (none_chosen d rows c.args.cost paths c.in-Chosen.every (tree_refusal d paths) made)
