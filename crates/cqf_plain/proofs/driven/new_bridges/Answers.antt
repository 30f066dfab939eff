use Rattle.cqf_plain.specs.Driven.{IsNewlyDriven}
use Rattle.cqf_plain.proofs.Turning.{one_pushed}
use Rattle.cqf_plain.proofs.driven.new_bridges.Goals as goal

-- the next bridge is made
pub loop-bridge-preserved : goal.loop-bridge-preserved
loop-bridge-preserved c =
    one_pushed (IsNewlyDriven c.args.plan.now c.args.offers.now c.args.background.now) c.loop-bridge.bridge c.loop-bridge.bridges.items _ _
    c.loop-bridge.invariant
    c.in_ok-new_driven.ensures c.in_ok-push.ensures.items
