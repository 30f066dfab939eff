use Rattle.std.proofs.Common.{◌≡◌, ◌∙◌, ◌<◌, arith, get_or, length, subst, sym, Contains}
use Rattle.std.proofs.lemmas.List.Elements.{Contains-get_or}
use Rattle.cqf_lists.proofs.InPlace.{next_done, next_is}
use Rattle.cqf_bridge.specs.Quiet.{rested}
use Rattle.cqf_bridge.proofs.quiet.rest_ports.Goals as goal

pub rest_to-requires : goal.rest_to-requires
rest_to-requires c =
    let before = c.args.ports.now.items in
    let r = c.index_mut.result.now in
    let inside : c.loop-index.index < length before = omega (arith, c.loop-index-test.true, c.len-index-end.ensures) in
    let same : r ≡ get_or before c.loop-index.index r =
    c.index_mut.ensures.value
    ∙ next_is (rested c.args.until.0) before c.loop-index.ports.items c.loop-index.index inside c.loop-index.invariant r in
    let held = subst (Contains before) (sym same) (Contains-get_or before c.loop-index.index r inside) in
    record { later = c.requires.later r held; early = c.requires.early; quiet = c.requires.quiet r held }

pub loop-index-preserved : goal.loop-index-preserved
loop-index-preserved c =
    let before = c.args.ports.now.items in
    next_done (rested c.args.until.0) before c.loop-index.ports.items c.loop-index.index
    (omega (arith, c.loop-index-test.true, c.len-index-end.ensures)) c.loop-index.invariant c.index_mut.result.now c.rest_to.new.self
    c.index_mut.ensures.value c.in_ok-rest_to.ensures
