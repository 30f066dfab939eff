-- The octets of the pieces so far are summed.
use Rattle.std.proofs.Common.{◌≡◌, ℕ, List, sum}
use Rattle.std.specs.Slice.Iter.{chunks_rest, chunks_size}
use Rattle.cqf_report.proofs.LinkPieces.{IsSoFar}
use Rattle.cqf_report.proofs.links.sum_of.Given as goal

abbrev pub invariant-loop-piece : goal.invariant-loop-piece
invariant-loop-piece g l =
    (goal.iterator-loop-piece g).can_next l.piece-iterator
    × (goal.iterator-loop-piece g).is_finite l.piece-iterator
    × (chunks_size l.piece-iterator ≡ 1048576)
    × IsSoFar (λ (xs : List ℕ). sum xs) l.listed (chunks_rest l.piece-iterator) l.octets
