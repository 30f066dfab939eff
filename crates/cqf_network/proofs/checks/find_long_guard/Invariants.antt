use Rattle.std.proofs.Common.{◌≡◌, drop}
use Rattle.cqf_network.specs.Edges.{first_long_guard}
use Rattle.cqf_network.proofs.checks.find_long_guard.Given as goal

abbrev pub invariant-loop-edge : goal.invariant-loop-edge
invariant-loop-edge l =
    first_long_guard l.candidates l.guard (drop l.edge-index l.edges) ≡ first_long_guard l.candidates l.guard l.edges
