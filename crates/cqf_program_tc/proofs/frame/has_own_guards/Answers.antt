-- Whether one more link has one.
use Rattle.std.proofs.Common.{◌<◌, ◌∙◌, arith, length, sym}
use Rattle.cqf_program_tc.proofs.Owned.{none_so_far, some_has}
use Rattle.cqf_program_tc.proofs.frame.has_own_guards.Goals as goal

pub loop-link-preserved : goal.loop-link-preserved
loop-link-preserved c =
    let links = c.args.domain.now.links in
    let inside : c.loop-link.link < length links = omega (arith, c.loop-link-test.true, c.links-link-end.ensures) in
    none_so_far links c.loop-link.link inside (sym c.has_own_list.ensures ∙ c.if-has_own_list.false) c.loop-link.invariant

pub returns-then-has_own_list : goal.returns-then-has_own_list
returns-then-has_own_list c = sym (some_has c.args.domain.now.links c.loop-link.link (sym c.has_own_list.ensures ∙ c.if-has_own_list.true))
