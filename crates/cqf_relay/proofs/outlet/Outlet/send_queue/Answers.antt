use Rattle.std.proofs.Common.{ap, arith}
use Rattle.std.proofs.lemmas.List.{get_or_default}
use Rattle.cqf_relay.specs.Sending.{came_of}
use Rattle.cqf_relay.proofs.Sends.{sent_all, sent_more, sent_none}
use Rattle.cqf_relay.proofs.outlet.Outlet.send_queue.Goals as goal

pub loop-queued-init : goal.loop-queued-init
loop-queued-init c = sent_none c.args.cycle c.args.queue.now c.args.self.now

pub loop-queued-preserved : goal.loop-queued-preserved
loop-queued-preserved c =
    sent_more c.args.cycle c.args.queue.now c.loop-queued.queued-index c.loop-queued.offset c.in_ok-offset.offset c.args.self.now
    c.loop-queued.self c.send_one.new.self c.loop-queued.invariant c.loop-queued-test.true _ (λ d. ap came_of (get_or_default c.args.queue.now c.loop-queued.queued-index _ d c.loop-queued-test.true)) c.in_ok-offset.ensures

pub returns : goal.returns
returns c =
    sent_all c.args.cycle c.args.queue.now c.loop-queued.queued-index c.loop-queued.offset c.args.self.now c.loop-queued.self
    c.loop-queued.invariant (omega (arith, c.loop-queued-test.false))
