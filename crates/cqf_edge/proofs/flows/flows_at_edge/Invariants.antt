use Rattle.std.proofs.Common.{◌≡◌, ◌++◌, ◌+◌, drop, length, map}
use Rattle.std.specs.Vec.Iter.{into_iter_items}
use Rattle.cqf_traffic.specs.FlowsText.{flow_text}
use Rattle.cqf_network.specs.NetworkFlows.{network_flow_text}
use Rattle.cqf_edge.specs.EdgeFlows.{flows_at_edge}
use Rattle.cqf_edge.proofs.flows.flows_at_edge.Given as goal

-- those so far are the first, and the others are still to come
abbrev pub invariant-loop-found : goal.invariant-loop-found
invariant-loop-found l =
    (map flow_text l.flows.items ++ flows_at_edge (drop (length l.flows.items) l.passages) (map network_flow_text (into_iter_items l.found-iterator))
    ≡ flows_at_edge l.passages (map network_flow_text l.fn.all.items))
    × (length l.flows.items + length (into_iter_items l.found-iterator) ≡ length l.passages)
