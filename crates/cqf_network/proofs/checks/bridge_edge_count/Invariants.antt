use Rattle.std.proofs.Common.{◌≡◌, ◌≤◌, take}
use Rattle.cqf_network.specs.Edges.{bridge_edge_count}
use Rattle.cqf_network.proofs.checks.bridge_edge_count.Given as goal

abbrev pub invariant-loop-edge : goal.invariant-loop-edge
invariant-loop-edge l = (l.count ≡ bridge_edge_count (take l.edge-index l.edges)) × (l.count ≤ l.edge-index)
