use Rattle.std.proofs.Common.{◌≡◌, ◌++◌, drop, length}
use Rattle.std.specs.Prelude.{All}
use Rattle.cqf_edge.specs.Uses.{IsShort, bounds_from}
use Rattle.cqf_edge.proofs.uses.bounds_of.Given as goal

-- the bounds so far are those of the first links
abbrev pub invariant-loop-index : goal.invariant-loop-index
invariant-loop-index l =
    (l.bounds.items ++ bounds_from l.all l.index (drop l.index l.links) ≡ bounds_from l.all 0 l.links)
    × All IsShort l.bounds.items
    × (length l.bounds.items ≡ l.index)
