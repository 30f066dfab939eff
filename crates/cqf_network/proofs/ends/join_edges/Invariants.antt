use Rattle.std.proofs.Common.{◌≡◌, drop}
use Rattle.cqf_topology.specs.DomainText.{with_front}
use Rattle.cqf_network.specs.Edges.{joined}
use Rattle.cqf_network.proofs.ends.join_edges.Given as goal

abbrev pub invariant-loop-element : goal.invariant-loop-element
invariant-loop-element l =
    with_front l.edges.items (joined l.bridges.keys l.stations.keys l.element (drop l.element l.links)) ≡ joined l.bridges.keys l.stations.keys 0 l.links
