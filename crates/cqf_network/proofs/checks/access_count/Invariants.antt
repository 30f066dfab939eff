use Rattle.std.proofs.Common.{◌≡◌, ◌≤◌, length, take}
use Rattle.cqf_network.specs.Edges.{talkers_of}
use Rattle.cqf_network.proofs.checks.access_count.Given as goal

abbrev pub invariant-loop-edge : goal.invariant-loop-edge
invariant-loop-edge l = (l.count ≡ length (talkers_of (take l.edge-index l.edges))) × (l.count ≤ l.edge-index)
