use Rattle.std.proofs.Common.{Some, arith}
use Rattle.cqf_program_planning.proofs.OrderSteps.{moved_end, moved_step, rest_moved}
use Rattle.cqf_program_planning.proofs.orders.moved.Goals as goal

-- each index is that of a stream
pub bounds-streams-index : goal.bounds-streams-index
bounds-streams-index c = c.requires c.loop-index.index-index 0 c.loop-index-test.true

pub offset_bounds-streams-index : goal.offset_bounds-streams-index
offset_bounds-streams-index c =
    let inside = c.requires c.loop-index.index-index 0 c.loop-index-test.true in
    omega (arith, inside)

-- one more has moved
pub loop-index-preserved : goal.loop-index-preserved
loop-index-preserved c =
    let order = c.args.order.now in
    let k = c.loop-index.index-index in
    let low = c.loop-index-test.true in
    let streams = c.args.streams.now in
    moved_step order k low streams c.index-streams-index.result (c.requires k 0 low) c.index-streams-index.is c.args.first c.loop-index.carried
    c.step_of-here.result (rest_moved streams order c.args.first 0 (Some c.args.first)) c.loop-index.next.items c.push.new.self.items c.step_of-here.ensures
    c.loop-index.invariant c.in_ok-push.ensures.items

pub returns : goal.returns
returns c =
    moved_end c.args.streams.now c.args.order.now c.args.first c.loop-index.index-index c.loop-index.carried
    (rest_moved c.args.streams.now c.args.order.now c.args.first 0 (Some c.args.first)) c.loop-index.next.items c.loop-index-test.false c.loop-index.invariant
