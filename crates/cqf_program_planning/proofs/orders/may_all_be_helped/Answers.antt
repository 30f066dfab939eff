use Rattle.std.proofs.Common.{◌∙◌, ◌+◌, Bool, ap, arith, sym}
use Rattle.std.specs.Prelude.{◌&&◌}
use Rattle.cqf_program_planning.proofs.OrderSteps.{helped_end, helped_from, helped_next}
use Rattle.cqf_program_planning.proofs.orders.may_all_be_helped.Goals as goal

-- each index is that of a stream
pub bounds-streams-index : goal.bounds-streams-index
bounds-streams-index c = c.requires.inside c.loop-position.position 0 c.loop-position-test.true

pub offset_bounds-streams-index : goal.offset_bounds-streams-index
offset_bounds-streams-index c =
    let inside = c.requires.inside c.loop-position.position 0 c.loop-position-test.true in
    omega (arith, inside)

-- one that can't be helped
pub returns-then-not-may_be_helped : goal.returns-then-not-may_be_helped
returns-then-not-may_be_helped c =
    let order = c.args.order.now in
    let k = c.loop-position.position in
    let low = c.loop-position-test.true in
    let streams = c.args.streams.now in
    let outcomes = c.args.outcomes.now in
    sym (c.loop-position.invariant
    ∙ helped_next order k low outcomes c.index-outcomes-position.result c.requires.each c.index-outcomes-position.is streams c.index-streams-index.result
    (c.requires.inside k 0 low) c.index-streams-index.is c.may_be_helped.result c.may_be_helped.ensures
    ∙ ap (λ (b : Bool). b && helped_from streams order outcomes (k + 1)) c.if-not-may_be_helped.true)

-- or one that can
pub loop-position-preserved : goal.loop-position-preserved
loop-position-preserved c =
    let order = c.args.order.now in
    let k = c.loop-position.position in
    let low = c.loop-position-test.true in
    let streams = c.args.streams.now in
    let outcomes = c.args.outcomes.now in
    c.loop-position.invariant
    ∙ helped_next order k low outcomes c.index-outcomes-position.result c.requires.each c.index-outcomes-position.is streams c.index-streams-index.result
    (c.requires.inside k 0 low) c.index-streams-index.is c.may_be_helped.result c.may_be_helped.ensures
    ∙ ap (λ (b : Bool). b && helped_from streams order outcomes (k + 1)) c.if-not-may_be_helped.false

pub returns : goal.returns
returns c = sym (c.loop-position.invariant ∙ helped_end c.args.streams.now c.args.order.now c.args.outcomes.now c.loop-position.position c.loop-position-test.false)
