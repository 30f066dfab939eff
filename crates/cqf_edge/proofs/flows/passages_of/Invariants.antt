use Rattle.std.proofs.Common.{◌≡◌, map, take}
use Rattle.std.specs.Prelude.{All}
use Rattle.cqf_edge.specs.EdgeFlows.{IsPassageOne, passage_of}
use Rattle.cqf_edge.proofs.flows.passages_of.Given as goal

abbrev pub invariant-loop-one : goal.invariant-loop-one
invariant-loop-one l =
    (l.passages.items ≡ map (passage_of l.network l.bounds) (take l.one-index l.handed)) × All IsPassageOne l.passages.items
