use Rattle.cqf_plain.specs.Driven.{IsNewlyDriven}
use Rattle.cqf_plain.specs.Turns.{EachIs}
use Rattle.cqf_plain.proofs.driven.new_bridges.Given as goal

-- the first bridges are made
abbrev pub invariant-loop-bridge : goal.invariant-loop-bridge
invariant-loop-bridge l = EachIs (IsNewlyDriven l.plan l.offers l.background) l.bridge l.bridges.items
