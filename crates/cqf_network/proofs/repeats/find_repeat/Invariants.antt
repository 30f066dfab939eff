-- The pairs so far are held, and the first that repeats is among the rest.
use Rattle.std.proofs.Common.{◌≡◌, [], drop, map, take}
use Rattle.cqf_network.specs.Edges.{first_repeat, pair_of}
use Rattle.cqf_network.proofs.repeats.find_repeat.Given as goal

abbrev pub invariant-loop-index : goal.invariant-loop-index
invariant-loop-index l =
    (map pair_of l.held.keys ≡ map pair_of (take l.index l.pairs))
    × (first_repeat (map pair_of (take l.index l.pairs)) (map pair_of (drop l.index l.pairs)) ≡ first_repeat [] (map pair_of l.pairs))
