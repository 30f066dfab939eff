use Rattle.std.proofs.Common.{◌≡◌, drop}
use Rattle.cqf_network.specs.Edges.{first_long_delay}
use Rattle.cqf_network.proofs.checks.find_long_delay.Given as goal

abbrev pub invariant-loop-edge : goal.invariant-loop-edge
invariant-loop-edge l = first_long_delay l.sync l.guard (drop l.edge-index l.edges) ≡ first_long_delay l.sync l.guard l.edges
