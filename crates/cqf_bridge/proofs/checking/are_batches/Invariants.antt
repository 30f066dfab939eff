use Rattle.std.specs.Prelude.{ℕ, ◌≡◌, ◌<◌, Some, slice_get}
use Rattle.cqf_bridge.specs.Batch.{LinkBatch}
use Rattle.cqf_bridge.specs.Taking.{IsBatchOf}
use Rattle.cqf_bridge.proofs.checking.are_batches.Given as goal

abbrev pub invariant-loop-batch : goal.invariant-loop-batch
invariant-loop-batch l =
    (k : ℕ) (b : LinkBatch) → k < l.batch-index → slice_get l.batches k ≡ Some b → IsBatchOf l.domain l.number l.cycle.0 l.table.rows b
