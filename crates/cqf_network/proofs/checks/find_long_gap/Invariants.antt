use Rattle.std.proofs.Common.{◌≡◌, drop}
use Rattle.cqf_network.specs.Edges.{first_long_gap}
use Rattle.cqf_network.proofs.checks.find_long_gap.Given as goal

abbrev pub invariant-loop-edge : goal.invariant-loop-edge
invariant-loop-edge l = first_long_gap l.guard (drop l.edge-index l.edges) ≡ first_long_gap l.guard l.edges
