use Rattle.std.specs.Prelude.{ℕ, ◌≡◌, ◌<◌, Some, slice_get}
use Rattle.cqf_model.specs.declared.frames.Sent.{Sent}
use Rattle.cqf_bridge.specs.Receiving.{MayCome}
use Rattle.cqf_bridge.proofs.checking.is_batch_of.Given as goal

abbrev pub invariant-loop-index : goal.invariant-loop-index
invariant-loop-index l =
    (k : ℕ) (sent : Sent) → k < l.index → slice_get l.batch.frames k ≡ Some sent → MayCome l.domain l.number l.cycle.0 l.table.rows l.batch.link sent
