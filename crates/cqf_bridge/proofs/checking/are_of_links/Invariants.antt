use Rattle.std.specs.Prelude.{ℕ, ◌≡◌, ◌<◌, map, slice_get}
use Rattle.cqf_bridge.specs.Batch.{LinkBatch}
use Rattle.cqf_bridge.proofs.checking.are_of_links.Given as goal

abbrev pub invariant-loop-index : goal.invariant-loop-index
invariant-loop-index l = (k : ℕ) → k < l.index → slice_get (map (λ (b : LinkBatch). b.link) l.batches) k ≡ slice_get l.links k
