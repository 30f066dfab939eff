use Rattle.std.proofs.Common.{subst}
use Rattle.cqf_bridge.specs.BridgeState.{BridgeState, IsBridge}
use Rattle.cqf_bridge.proofs.bridge.Bridge.domain.Goals as goal

pub returns-clause-facts : goal.returns-clause-facts
returns-clause-facts c = subst (λ (b : BridgeState). IsBridge b) c.self.view_is c.self.invariant.has_gates.bridge
