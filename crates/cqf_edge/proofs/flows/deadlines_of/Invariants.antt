use Rattle.std.proofs.Common.{◌≡◌, map, take}
use Rattle.cqf_network.specs.NetworkFlows.{NetworkFlowText, network_flow_text}
use Rattle.cqf_edge.proofs.flows.deadlines_of.Given as goal

abbrev pub invariant-loop-found : goal.invariant-loop-found
invariant-loop-found l =
    l.deadlines.items ≡ map (λ (found : NetworkFlowText). found.flow.0.1) (map network_flow_text (take l.found-index l.all))
