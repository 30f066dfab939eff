-- The octets of the pieces so far are summed.
use Rattle.std.proofs.Common.{◌≡◌, List, sum_by}
use Rattle.std.specs.Slice.Iter.{chunks_rest, chunks_size}
use Rattle.cqf_model.specs.declared.frames.Started.{Started}
use Rattle.cqf_report.proofs.LinkPieces.{IsSoFar}
use Rattle.cqf_report.proofs.links.octets_of.Given as goal

abbrev pub invariant-loop-piece : goal.invariant-loop-piece
invariant-loop-piece l =
    (goal.iterator-loop-piece).can_next l.piece-iterator
    × (goal.iterator-loop-piece).is_finite l.piece-iterator
    × (chunks_size l.piece-iterator ≡ 1048576)
    × IsSoFar (λ (xs : List Started). sum_by (λ (start : Started). start.octets) xs) l.starts (chunks_rest l.piece-iterator) l.octets
