use Rattle.cqf_world.specs.Beginning.{AreNewDriven}
use Rattle.cqf_world.proofs.making.new_driven_bridges.Given as goal

-- the first bridges are made
abbrev pub invariant-loop-bridge : goal.invariant-loop-bridge
invariant-loop-bridge l = AreNewDriven l.plan l.offers l.background l.bridge l.driven.items
