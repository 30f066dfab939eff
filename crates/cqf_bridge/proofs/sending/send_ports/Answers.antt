use Rattle.std.proofs.Common.{◌≡◌, ◌∙◌, ◌<◌, arith, get_or, sym, subst, length, Contains}
use Rattle.std.proofs.lemmas.List.Elements.{Contains-get_or}
use Rattle.cqf_bridge.proofs.Sends.{all_send, is_next, none_sends, one_sends}
use Rattle.cqf_bridge.proofs.sending.send_ports.Goals as goal

pub loop-index-init : goal.loop-index-init
loop-index-init c = none_sends c.args.phase.domain.now c.args.phase.cycle.0 c.args.phase.background.now c.args.ports.now.items
    c.args.batches.now.items c.args.started.now.items

pub send_port-requires-clause-in_step : goal.send_port-requires-clause-in_step
send_port-requires-clause-in_step c =
    let before = c.args.ports.now.items in
    let r = c.index_mut.result.now in
    let inside : c.loop-index.index < length before = omega (arith, c.loop-index-test.true, c.len-index-end.ensures) in
    let same : r ≡ get_or before c.loop-index.index r =
    c.index_mut.ensures.value
    ∙ is_next c.args.phase.domain.now c.args.phase.cycle.0 c.args.phase.background.now before c.args.batches.now.items c.args.started.now.items
    c.loop-index.index _ _ _ c.loop-index.invariant inside r in
    c.requires.in_step r (subst (Contains before) (sym same) (Contains-get_or before c.loop-index.index r inside))

pub loop-index-preserved : goal.loop-index-preserved
loop-index-preserved c =
    let before = c.args.ports.now.items in
    let inside : c.loop-index.index < length before = omega (arith, c.loop-index-test.true, c.len-index-end.ensures) in
    one_sends c.args.phase.domain.now c.args.phase.cycle.0 c.args.phase.background.now before c.args.batches.now.items c.args.started.now.items
    c.loop-index.index _ _ _ c.loop-index.invariant inside
    c.index_mut.result.now _ _ _ c.index_mut.ensures.value c.in_ok-send_port.ensures.sends

pub returns-clause-sends : goal.returns-clause-sends
returns-clause-sends c =
    all_send c.args.phase.domain.now c.args.phase.cycle.0 c.args.phase.background.now c.args.ports.now.items c.args.batches.now.items
    c.args.started.now.items c.loop-index.index _ _ _ c.loop-index.invariant
    (omega (arith, c.loop-index-test.false, c.loop-index.auto.index-end, c.len-index-end.ensures))
