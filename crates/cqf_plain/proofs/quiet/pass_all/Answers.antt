use Rattle.std.proofs.Common.{◌≡◌, ◌∙◌, ◌<◌, arith, get_or, length, subst, sym, Contains}
use Rattle.std.proofs.lemmas.List.Elements.{Contains-get_or}
use Rattle.cqf_lists.proofs.InPlace.{next_done, next_is}
use Rattle.cqf_plain.specs.Due.{driven_past}
use Rattle.cqf_plain.proofs.quiet.pass_all.Goals as goal

pub pass_one-requires : goal.pass_one-requires
pass_one-requires c =
    let before = c.args.bridges.now.items in
    let s = c.index_mut.result.now in
    let inside : c.loop-index.index < length before = omega (arith, c.loop-index-test.true, c.len-index-end.ensures) in
    let same : s ≡ get_or before c.loop-index.index s =
    c.index_mut.ensures.value
    ∙ next_is (driven_past c.args.cycle.0) before c.loop-index.bridges.items c.loop-index.index inside c.loop-index.invariant s in
    c.requires s (subst (Contains before) (sym same) (Contains-get_or before c.loop-index.index s inside))

pub loop-index-preserved : goal.loop-index-preserved
loop-index-preserved c =
    next_done (driven_past c.args.cycle.0) c.args.bridges.now.items c.loop-index.bridges.items c.loop-index.index
    (omega (arith, c.loop-index-test.true, c.len-index-end.ensures)) c.loop-index.invariant c.index_mut.result.now c.pass_one.new.driven
    c.index_mut.ensures.value c.in_ok-pass_one.ensures
