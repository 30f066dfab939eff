use Rattle.std.proofs.Common.{◌∙◌, arith, sym}
use Rattle.cqf_program_planning.proofs.OrderSteps.{open_end, open_here, open_later}
use Rattle.cqf_program_planning.proofs.orders.is_first_open.Goals as goal

-- each index is that of a stream
pub bounds-streams-index : goal.bounds-streams-index
bounds-streams-index c = c.requires c.loop-index.index-index 0 c.loop-index-test.true

pub offset_bounds-streams-index : goal.offset_bounds-streams-index
offset_bounds-streams-index c =
    let inside = c.requires c.loop-index.index-index 0 c.loop-index-test.true in
    omega (arith, inside)

-- it is the first whose path is to be found
pub returns-then-is_open : goal.returns-then-is_open
returns-then-is_open c =
    let order = c.args.order.now in
    let k = c.loop-index.index-index in
    let low = c.loop-index-test.true in
    sym (c.loop-index.invariant
    ∙ open_here order k low c.args.streams.now c.index-streams-index.result (c.requires k 0 low) c.index-streams-index.is c.args.first
    (sym c.is_open.ensures ∙ c.if-is_open.true))

-- or its path is given
pub loop-index-preserved : goal.loop-index-preserved
loop-index-preserved c =
    let order = c.args.order.now in
    let k = c.loop-index.index-index in
    let low = c.loop-index-test.true in
    c.loop-index.invariant
    ∙ open_later order k low c.args.streams.now c.index-streams-index.result (c.requires k 0 low) c.index-streams-index.is c.args.first
    (sym c.is_open.ensures ∙ c.if-is_open.false)

pub returns : goal.returns
returns c = sym (c.loop-index.invariant ∙ open_end c.args.streams.now c.args.order.now c.args.first c.loop-index.index-index c.loop-index-test.false)
