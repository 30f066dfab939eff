use Rattle.std.proofs.Common.{◌∙◌, [], string_bytes}
use Rattle.cqf_program_placing.proofs.RouteLemmas.{made_more}
use Rattle.cqf_program_placing.proofs.branches.copied_branch.Goals as goal

pub loop-name-preserved : goal.loop-name-preserved
loop-name-preserved c =
    made_more string_bytes string_bytes c.args.names.now c.loop-name.name-index c.name-item.result c.name-item.result [] c.loop-name.copies.items
    c.push.new.self.items c.in_ok-from_str.field-0 c.loop-name-test.true c.name-item.is c.in_ok-push.ensures.items
    (c.in_ok-from_str.ensures.ok ∙ c.as_str.ensures.value) c.loop-name.invariant
