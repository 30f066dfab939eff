use Rattle.std.proofs.Common.{◌∙◌, arith, sym}
use Rattle.cqf_program_planning.proofs.OrderSteps.{without_end, without_here, without_later}
use Rattle.cqf_program_planning.proofs.orders.first_without.Goals as goal

-- it isn't placed
pub returns-then-not-is_placed : goal.returns-then-not-is_placed
returns-then-not-is_placed c =
    sym (c.loop-position.invariant
    ∙ without_here c.args.order.now c.loop-position.position c.loop-position-test.true c.args.outcomes.now c.index-outcomes-position.result c.requires
    c.index-outcomes-position.is (sym c.is_placed.ensures ∙ c.if-not-is_placed.true))

-- or it is
pub loop-position-preserved : goal.loop-position-preserved
loop-position-preserved c =
    c.loop-position.invariant
    ∙ without_later c.args.order.now c.loop-position.position c.loop-position-test.true c.args.outcomes.now c.index-outcomes-position.result c.requires
    c.index-outcomes-position.is (sym c.is_placed.ensures ∙ c.if-not-is_placed.false)

pub returns : goal.returns
returns c = sym (c.loop-position.invariant ∙ without_end c.args.order.now c.args.outcomes.now c.loop-position.position c.loop-position-test.false)
