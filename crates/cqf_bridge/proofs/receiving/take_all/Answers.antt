use Rattle.std.proofs.Common.{◌≡◌, ◌∙◌, arith, get_or, map, sym, ap}
use Rattle.std.proofs.lemmas.List.{get_or-map, length-map}
use Rattle.cqf_bridge.specs.Taking.{received_as}
use Rattle.cqf_bridge.proofs.TakenCycle.{among, next_waiting, taking_more, taking_none, taking_stops}
use Rattle.cqf_bridge.proofs.receiving.take_all.Goals as goal

pub loop-frame-init : goal.loop-frame-init
loop-frame-init c =
    taking_none c.args.phase.domain.now c.args.phase.table.now.rows c.args.phase.number c.args.phase.cycle.0 c.args.ports.now.items c.args.drops.now.items
    (map received_as c.args.frames.now) c.gate_counts_cycles.ensures (omega (arith, c.know.ensures.accepted.cycle_least))
    c.args.gates.now c.requires.waiting c.requires.before

pub take_frame-requires-clause-may : goal.take_frame-requires-clause-may
take_frame-requires-clause-may c =
    let frames = map received_as c.args.frames.now in
    let count = c.loop-frame.frame-index in
    let x = received_as c.frame-item.result in
    let is : x ≡ get_or frames count x = ap received_as c.frame-item.is
    ∙ sym (get_or-map received_as c.args.frames.now count c.frame-item.result x c.loop-frame-test.true) in
    c.requires.may x
    (among c.args.phase.domain.now c.args.phase.table.now.rows c.args.phase.number c.args.phase.cycle.0 c.args.ports.now.items
    c.args.drops.now.items frames c.gate_counts_cycles.ensures
    (omega (arith, c.know.ensures.accepted.cycle_least)) c.requires.may count c.loop-frame.gates c.loop-frame.ports.items c.loop-frame.drops.items
    c.loop-frame.invariant c.requires.ordered (omega (arith, c.loop-frame-test.true, length-map c.args.frames.now received_as)) x is)

pub take_frame-requires-clause-waiting : goal.take_frame-requires-clause-waiting
take_frame-requires-clause-waiting c =
    let frames = map received_as c.args.frames.now in
    let count = c.loop-frame.frame-index in
    let x = received_as c.frame-item.result in
    let is : x ≡ get_or frames count x = ap received_as c.frame-item.is
    ∙ sym (get_or-map received_as c.args.frames.now count c.frame-item.result x c.loop-frame-test.true) in
    next_waiting c.args.phase.domain.now c.args.phase.table.now.rows c.args.phase.number c.args.phase.cycle.0 c.args.ports.now.items
    c.args.drops.now.items frames c.gate_counts_cycles.ensures
    (omega (arith, c.know.ensures.accepted.cycle_least)) c.requires.may count c.loop-frame.gates c.loop-frame.ports.items c.loop-frame.drops.items
    c.loop-frame.invariant c.requires.ordered (omega (arith, c.loop-frame-test.true, length-map c.args.frames.now received_as)) x is

pub returns-in-Err-clause-stops : goal.returns-in-Err-clause-stops
returns-in-Err-clause-stops c =
    let frames = map received_as c.args.frames.now in
    let count = c.loop-frame.frame-index in
    let x = received_as c.frame-item.result in
    let is : x ≡ get_or frames count x = ap received_as c.frame-item.is
    ∙ sym (get_or-map received_as c.args.frames.now count c.frame-item.result x c.loop-frame-test.true) in
    taking_stops c.args.phase.domain.now c.args.phase.table.now.rows c.args.phase.number c.args.phase.cycle.0 c.args.ports.now.items
    c.args.drops.now.items frames c.gate_counts_cycles.ensures
    (omega (arith, c.know.ensures.accepted.cycle_least)) c.requires.may count c.loop-frame.gates c.loop-frame.ports.items c.loop-frame.drops.items
    c.loop-frame.invariant c.requires.ordered (omega (arith, c.loop-frame-test.true, length-map c.args.frames.now received_as)) x is
    c.in-Err.fault c.in-Err.ensures.stops

pub loop-frame-preserved : goal.loop-frame-preserved
loop-frame-preserved c =
    let frames = map received_as c.args.frames.now in
    let count = c.loop-frame.frame-index in
    let x = received_as c.frame-item.result in
    let is : x ≡ get_or frames count x = ap received_as c.frame-item.is
    ∙ sym (get_or-map received_as c.args.frames.now count c.frame-item.result x c.loop-frame-test.true) in
    taking_more c.args.phase.domain.now c.args.phase.table.now.rows c.args.phase.number c.args.phase.cycle.0 c.args.ports.now.items
    c.args.drops.now.items frames c.gate_counts_cycles.ensures
    (omega (arith, c.know.ensures.accepted.cycle_least)) c.requires.may count c.loop-frame.gates c.loop-frame.ports.items c.loop-frame.drops.items
    c.loop-frame.invariant c.requires.ordered (omega (arith, c.loop-frame-test.true, length-map c.args.frames.now received_as)) x is _ _ _ c.in-Ok.ensures.takes

pub returns-clause-kept : goal.returns-clause-kept
returns-clause-kept c = c.loop-frame.invariant.kept
