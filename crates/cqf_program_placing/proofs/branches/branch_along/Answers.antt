use Rattle.std.proofs.Common.{◌∙◌, ◌∷◌, [], get_or, refl, string_bytes}
use Rattle.cqf_program_plans.specs.EndNames.{name_of_end}
use Rattle.cqf_topology.specs.NodeNames.{name_of_bridge}
use Rattle.cqf_program_placing.proofs.RouteLemmas.{made_more}
use Rattle.cqf_program_placing.proofs.branches.branch_along.Goals as goal

pub loop-link-preserved : goal.loop-link-preserved
loop-link-preserved c =
    let d = c.args.domain.now in
    let link_path = c.args.link_path.now in
    let k = c.loop-link.link-index in
    made_more string_bytes (name_of_end d) link_path k (get_or link_path k 0) 0 (name_of_bridge d c.args.bridge ∷ []) c.loop-link.names.items
    c.push-in-loop-link.new.self.items c.in_ok-from_str-2.field-0 c.loop-link-test.true refl c.in_ok-push-2.ensures.items
    (c.in_ok-from_str-2.ensures.ok ∙ c.name_of_end.ensures) c.loop-link.invariant
