use Rattle.std.specs.Prelude.{◌≡◌, ◌≤◌, filter, length, nat_lt, take}
use Rattle.cqf_bridge.specs.Batch.{LinkBatch}
use Rattle.cqf_world.proofs.inbox.index_of.Given as goal

abbrev pub invariant-loop-other : goal.invariant-loop-other
invariant-loop-other l = (l.index ≡ length (filter (λ (x : LinkBatch). nat_lt x.link l.link) (take l.other-index l.taken))) × (l.index ≤ l.other-index)
