use Rattle.std.proofs.Common.{◌∙◌, [], ap}
use Rattle.cqf_admission.specs.Branches.{branch_of}
use Rattle.cqf_program_placing.proofs.RouteLemmas.{made_more}
use Rattle.cqf_program_placing.proofs.branches.copied_branches.Goals as goal

pub loop-path-preserved : goal.loop-path-preserved
loop-path-preserved c =
    made_more (λ path. branch_of path.items) (λ path. branch_of path.items) c.args.paths.now c.loop-path.path-index c.path-item.result c.path-item.result []
    c.loop-path.copies.items c.push.new.self.items c.in_ok-copied_branch.field-0 c.loop-path-test.true c.path-item.is c.in_ok-push.ensures.items
    (c.in_ok-copied_branch.ensures ∙ ap branch_of c.as_slice.ensures.value) c.loop-path.invariant
