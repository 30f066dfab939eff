use Rattle.std.proofs.Common.{◌≡◌, ◌∙◌, arith, get_or, map, sym, ap}
use Rattle.std.proofs.lemmas.List.{get_or-map, length-map}
use Rattle.cqf_bridge.specs.Taking.{received_as}
use Rattle.cqf_plain.proofs.Policing.{among, policing_all, policing_more, policing_none, policing_stops}
use Rattle.cqf_plain.proofs.losing.lost_among.Goals as goal

pub loop-frame-init : goal.loop-frame-init
loop-frame-init c =
    policing_none c.args.domain.now c.args.number c.args.table.now.cycle c.args.table.now.rows (map received_as c.args.frames.now) _ c.new-gates.ensures

pub is_lost-requires : goal.is_lost-requires
is_lost-requires c =
    let frames = map received_as c.args.frames.now in
    let count = c.loop-frame.frame-index in
    let x = received_as c.frame-item.result in
    let is : x ≡ get_or frames count x = ap received_as c.frame-item.is
    ∙ sym (get_or-map received_as c.args.frames.now count c.frame-item.result x c.loop-frame-test.true) in
    c.requires x
    (among c.args.domain.now c.args.number c.args.table.now.cycle c.args.table.now.rows frames count c.loop-frame.gates
    c.loop-frame.invariant (omega (arith, c.loop-frame-test.true, length-map c.args.frames.now received_as)) x is)

pub returns : goal.returns
returns c =
    policing_all c.args.domain.now c.args.number c.args.table.now.cycle c.args.table.now.rows (map received_as c.args.frames.now) c.loop-frame.frame-index
    c.loop-frame.gates c.loop-frame.invariant (omega (arith, c.loop-frame-test.false, length-map c.args.frames.now received_as))

pub returns-then-branch : goal.returns-then-branch
returns-then-branch c =
    let frames = map received_as c.args.frames.now in
    let count = c.loop-frame.frame-index in
    let x = received_as c.frame-item.result in
    let is : x ≡ get_or frames count x = ap received_as c.frame-item.is
    ∙ sym (get_or-map received_as c.args.frames.now count c.frame-item.result x c.loop-frame-test.true) in
    policing_stops c.args.domain.now c.args.number c.args.table.now.cycle c.args.table.now.rows frames count c.loop-frame.gates
    c.loop-frame.invariant (omega (arith, c.loop-frame-test.true, length-map c.args.frames.now received_as)) x is
    (λ tables policed table counted. c.in_ok-is_lost.ensures.yes tables policed table counted c.if-branch.true)

pub loop-frame-preserved : goal.loop-frame-preserved
loop-frame-preserved c =
    let frames = map received_as c.args.frames.now in
    let count = c.loop-frame.frame-index in
    let x = received_as c.frame-item.result in
    let is : x ≡ get_or frames count x = ap received_as c.frame-item.is
    ∙ sym (get_or-map received_as c.args.frames.now count c.frame-item.result x c.loop-frame-test.true) in
    policing_more c.args.domain.now c.args.number c.args.table.now.cycle c.args.table.now.rows frames count c.loop-frame.gates
    c.loop-frame.invariant (omega (arith, c.loop-frame-test.true, length-map c.args.frames.now received_as)) x is
    _ c.in_ok-is_lost.ensures.counted
    (λ tables policed table counted. c.in_ok-is_lost.ensures.no tables policed table counted c.if-branch.false)
