use Rattle.cqf_instants.proofs.Reporting.{empty_next, empty_none}
use Rattle.cqf_instants.proofs.rooms.empty_queues.Goals as goal

pub loop-index-init : goal.loop-index-init
loop-index-init c = empty_none c.args.links.now c.args.cycle_time c.args.guard c.args.offers _ c.new-queues.ensures.items

pub loop-index-preserved : goal.loop-index-preserved
loop-index-preserved c =
    empty_next c.args.links.now c.args.cycle_time c.args.guard c.args.offers c.loop-index.index c.frames_in-frames.result _ c.loop-index.queues.items c.push.new.self.items
    c.in_ok-with_capacity.field-0 c.loop-index-test.true c.loop-index.invariant c.in_ok-with_capacity.ensures.items c.in_ok-push.ensures.items
    c.in_ok-with_capacity.ensures.exact c.frames_in-frames.ensures.value
