use Rattle.std.proofs.Common.{◌≡◌, map, take}
use Rattle.cqf_network.specs.NetworkDomain.{link_of, bridge_edges}
use Rattle.cqf_network.proofs.domain.links_of.Given as goal

abbrev pub invariant-loop-edge : goal.invariant-loop-edge
invariant-loop-edge l = l.links.items ≡ map link_of (bridge_edges (take l.edge-index l.edges))
