use Rattle.std.proofs.Common.{◌≡◌, ◌++◌}
use Rattle.std.specs.Vec.Iter.{into_iter_items}
use Rattle.cqf_worker.specs.Closing.{ArePartsOf}
use Rattle.cqf_worker.proofs.closing.take_apart.Given as goal

-- the parts are those of the workers so far
abbrev pub invariant-loop-worker : goal.invariant-loop-worker
invariant-loop-worker l = (l.yielded ++ into_iter_items l.worker-iterator ≡ l.fn.workers.items) × ArePartsOf l.yielded l.parts
