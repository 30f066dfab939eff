use Rattle.std.proofs.Common.{◌≡◌, ◌∙◌, ◌<◌, All, List, length, subst, sym}
use Rattle.cqf_admission.specs.Branches.{branches_of}
use Rattle.cqf_model.specs.declared.topology.Hop.{Hop}
use Rattle.cqf_model.proofs.Hops.{hops_inside}
use Rattle.cqf_program_placing.specs.Known.{MakeTree}
use Rattle.cqf_program_placing.proofs.choosing.Route.is_roomy.Goals as goal

pub has_room_on-requires-clause-inside : goal.has_room_on-requires-clause-inside
has_room_on-requires-clause-inside c =
    let d = c.args.domain.now in
    let paths = branches_of c.args.self.now.branched.paths.items in
    let made = subst (MakeTree d paths) c.in-Some.is c.requires.good.branched in
    subst (λ (hops : List Hop). All (λ (hop : Hop). hop.link < length d.links) hops) (sym (c.as_slice.ensures.value ∙ made.1)) (hops_inside d paths)
