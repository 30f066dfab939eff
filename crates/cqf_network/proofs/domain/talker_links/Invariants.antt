use Rattle.std.proofs.Common.{◌≡◌, map, take}
use Rattle.cqf_network.specs.Edges.{talkers_of}
use Rattle.cqf_network.specs.NetworkDomain.{talker_of}
use Rattle.cqf_network.proofs.domain.talker_links.Given as goal

abbrev pub invariant-loop-edge : goal.invariant-loop-edge
invariant-loop-edge l = l.talkers.items ≡ map talker_of (talkers_of (take l.edge-index l.edges))
