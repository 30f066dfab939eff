use Rattle.cqf_world.proofs.NewParts.{one_driven}
use Rattle.cqf_world.proofs.making.new_driven_bridges.Goals as goal

-- the next bridge is made
pub loop-bridge-preserved : goal.loop-bridge-preserved
loop-bridge-preserved c =
    one_driven c.args.plan.now c.args.offers.now c.args.background.now c.loop-bridge.bridge c.loop-bridge.driven.items _ _ c.loop-bridge.invariant
    c.in_ok-new_driven.ensures c.in_ok-push.ensures.items
