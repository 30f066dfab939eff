use Rattle.std.proofs.Common.{◌≡◌, drop, length, map}
use Rattle.std.specs.Prelude.{All}
use Rattle.cqf_topology.specs.DomainText.{with_front}
use Rattle.cqf_network.specs.NetworkFlows.{network_flow_text}
use Rattle.cqf_edge.specs.EdgeFlows.{IsHandedOne, handed_of_all}
use Rattle.cqf_edge.proofs.flows.handed_of_all.Given as goal

abbrev pub invariant-loop-found : goal.invariant-loop-found
invariant-loop-found l =
    (with_front l.handed.items (handed_of_all l.network (map network_flow_text (drop l.found-index l.all)))
    ≡ handed_of_all l.network (map network_flow_text l.all))
    × All (IsHandedOne l.network) l.handed.items
    × (length l.handed.items ≡ l.found-index)
