-- Each link has the most of the batches so far.
use Rattle.std.specs.Slice.Iter.{chunk_by_rest}
use Rattle.cqf_report.proofs.LinkMost.{AreMostSoFar}
use Rattle.cqf_report.proofs.links.most_by_link.Given as goal

abbrev pub invariant-loop-batch : goal.invariant-loop-batch
invariant-loop-batch l =
    (goal.iterator-loop-batch).can_next l.batch-iterator
    × (goal.iterator-loop-batch).is_finite l.batch-iterator
    × AreMostSoFar l.starts (chunk_by_rest l.batch-iterator) l.most.items
