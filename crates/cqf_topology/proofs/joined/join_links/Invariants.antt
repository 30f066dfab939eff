use Rattle.std.proofs.Common.{◌≡◌, drop}
use Rattle.cqf_topology.specs.DomainText.{joined, with_front}
use Rattle.cqf_topology.proofs.joined.join_links.Given as goal

abbrev pub invariant-loop-link : goal.invariant-loop-link
invariant-loop-link l =
    with_front l.joined.items (joined l.bridges.keys l.stations.keys (drop l.link-index l.links))
    ≡ joined l.bridges.keys l.stations.keys l.links
