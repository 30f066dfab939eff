use Rattle.std.proofs.Common.{◌≡◌, ◌∙◌, ◌<◌, arith, get_or, length, subst, sym, Contains}
use Rattle.std.proofs.lemmas.List.Elements.{Contains-get_or}
use Rattle.cqf_lists.proofs.InPlace.{next_done, next_is}
use Rattle.cqf_bridge.specs.Taking.{queue_on}
use Rattle.cqf_bridge.proofs.recording.queue_all.Goals as goal

pub queue_one-requires-clause-taken : goal.queue_one-requires-clause-taken
queue_one-requires-clause-taken c =
    let before = c.args.ports.now.items in
    let r = c.index_mut.result.now in
    let inside : c.loop-index.index < length before = omega (arith, c.loop-index-test.true, c.len-index-end.ensures) in
    let same : r ≡ get_or before c.loop-index.index r =
    c.index_mut.ensures.value
    ∙ next_is (queue_on c.args.row.now c.args.ingress c.args.arrival) before c.loop-index.ports.items c.loop-index.index inside c.loop-index.invariant r in
    c.requires.taken r (subst (Contains before) (sym same) (Contains-get_or before c.loop-index.index r inside))

pub loop-index-preserved : goal.loop-index-preserved
loop-index-preserved c =
    let before = c.args.ports.now.items in
    next_done (queue_on c.args.row.now c.args.ingress c.args.arrival) before c.loop-index.ports.items c.loop-index.index
    (omega (arith, c.loop-index-test.true, c.len-index-end.ensures)) c.loop-index.invariant c.index_mut.result.now c.queue_one.new.port
    c.index_mut.ensures.value c.in_ok-queue_one.ensures
