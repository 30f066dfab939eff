use Rattle.std.proofs.Common.{◌∙◌, [], ap}
use Rattle.cqf_admission.specs.Branches.{branch_of}
use Rattle.cqf_program_placing.specs.Placing.{names_along}
use Rattle.cqf_program_placing.proofs.RouteLemmas.{made_more}
use Rattle.cqf_program_placing.proofs.branches.branches_along.Goals as goal

pub loop-link_path-preserved : goal.loop-link_path-preserved
loop-link_path-preserved c =
    let d = c.args.domain.now in
    made_more (λ path. branch_of path.items) (λ link_path. names_along d c.args.bridge link_path.items) c.args.link_paths.now c.loop-link_path.link_path-index c.link_path-item.result
    c.link_path-item.result [] c.loop-link_path.paths.items c.push.new.self.items c.in_ok-branch_along.field-0 c.loop-link_path-test.true c.link_path-item.is
    c.in_ok-push.ensures.items (c.in_ok-branch_along.ensures ∙ ap (names_along d c.args.bridge) c.as_slice.ensures.value) c.loop-link_path.invariant
