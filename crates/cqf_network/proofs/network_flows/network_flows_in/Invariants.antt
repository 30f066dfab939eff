use Rattle.std.proofs.Common.{◌≡◌, drop, map}
use Rattle.toml.specs.View.{items_view}
use Rattle.cqf_topology.specs.DomainText.{with_front}
use Rattle.cqf_network.specs.NetworkFlows.{network_flow_text, network_flows_from}
use Rattle.cqf_network.proofs.network_flows.network_flows_in.Given as goal

abbrev pub invariant-loop-value : goal.invariant-loop-value
invariant-loop-value l =
    with_front (map network_flow_text l.flows.items) (network_flows_from (items_view (drop l.value-index l.values))) ≡ network_flows_from (items_view l.values)
