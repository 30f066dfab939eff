use Rattle.std.proofs.Common.{◌≡◌, drop}
use Rattle.cqf_network.specs.Edges.{first_misplaced}
use Rattle.cqf_network.proofs.checks.find_misplaced.Given as goal

abbrev pub invariant-loop-edge : goal.invariant-loop-edge
invariant-loop-edge l = first_misplaced (drop l.edge-index l.edges) ≡ first_misplaced l.edges
