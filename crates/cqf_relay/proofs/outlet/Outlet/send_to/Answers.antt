use Rattle.std.proofs.Common.{arith}
use Rattle.cqf_relay.proofs.Sends.{sent_to_all, sent_to_more, sent_to_none}
use Rattle.cqf_relay.proofs.outlet.Outlet.send_to.Goals as goal

pub loop-cycle-init : goal.loop-cycle-init
loop-cycle-init c = sent_to_none c.args.until c.args.inlets.now c.args.edge.now c.args.self.now

pub send_cycle-requires : goal.send_cycle-requires
send_cycle-requires c = omega (arith, c.loop-cycle.invariant.as_far)

pub loop-cycle-preserved : goal.loop-cycle-preserved
loop-cycle-preserved c =
    sent_to_more c.args.until c.loop-cycle._cycle c.args.inlets.now c.args.edge.now c.args.self.now c.loop-cycle.self c.loop-cycle.invariant
    c.loop-cycle.auto._cycle c.send_cycle.new.self c.loop-cycle-test.true c.in_ok-send_cycle.ensures

pub returns : goal.returns
returns c =
    sent_to_all c.args.until c.loop-cycle._cycle c.args.inlets.now c.args.edge.now c.args.self.now c.loop-cycle.self c.loop-cycle.invariant
    c.loop-cycle.auto._cycle c.loop-cycle-test.false
