use Rattle.std.proofs.Common.{◌∙◌, arith, eq-eqb, get_or, ne_eqb, sym}
use Rattle.cqf_program_planning.proofs.OrderSteps.{asked_end, asked_here, asked_later}
use Rattle.cqf_program_planning.proofs.orders.request_at.Goals as goal

-- it is this one
pub returns-then-other-index : goal.returns-then-other-index
returns-then-other-index c =
    let order = c.args.order.now in
    let k = c.loop-position.position in
    c.request_in.ensures
    ∙ sym (c.loop-position.invariant
    ∙ asked_here order k c.loop-position-test.true c.args.outcomes.now c.index-outcomes-position.result c.requires c.index-outcomes-position.is c.args.index
    (eq-eqb (get_or order k 0) c.args.index c.if-other-index.true))

-- or a later one
pub loop-position-preserved : goal.loop-position-preserved
loop-position-preserved c =
    let order = c.args.order.now in
    let k = c.loop-position.position in
    c.loop-position.invariant
    ∙ asked_later order k c.loop-position-test.true c.args.outcomes.now c.index-outcomes-position.result c.requires c.index-outcomes-position.is c.args.index
    (ne_eqb (get_or order k 0) c.args.index c.if-other-index.false)

pub returns : goal.returns
returns c = sym (c.loop-position.invariant ∙ asked_end c.args.index c.args.order.now c.args.outcomes.now c.loop-position.position c.loop-position-test.false)
