use Rattle.std.proofs.Common.{◌≡◌, map, take}
use Rattle.cqf_network.specs.Edges.{ends_of, pair_of}
use Rattle.cqf_network.proofs.checks.ends_of_all.Given as goal

abbrev pub invariant-loop-edge : goal.invariant-loop-edge
invariant-loop-edge l = map pair_of l.pairs.items ≡ map ends_of (take l.edge-index l.edges)
