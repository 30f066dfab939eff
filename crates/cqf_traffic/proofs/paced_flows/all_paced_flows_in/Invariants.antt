use Rattle.std.proofs.Common.{◌≡◌, drop, map}
use Rattle.toml.specs.View.{items_view}
use Rattle.cqf_topology.specs.DomainText.{with_front}
use Rattle.cqf_traffic.specs.PacedFlows.{paced_flow_text, paced_flows_from}
use Rattle.cqf_traffic.proofs.paced_flows.all_paced_flows_in.Given as goal

abbrev pub invariant-loop-value : goal.invariant-loop-value
invariant-loop-value l =
    with_front (map paced_flow_text l.flows.items) (paced_flows_from (items_view (drop l.value-index l.values))) ≡ paced_flows_from (items_view l.values)
