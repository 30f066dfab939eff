use Rattle.std.proofs.Common.{◌≡◌, ◌++◌, All, map}
use Rattle.std.specs.Vec.Iter.{into_iter_items}
use Rattle.cqf_worker_loops.specs.Workers.{MayWork}
use Rattle.cqf_worker.proofs.threads.start_workers.Given as goal

-- each worker so far has its thread, and the others may work
abbrev pub invariant-loop-worker : goal.invariant-loop-worker
invariant-loop-worker g l =
    (l.yielded ++ into_iter_items l.worker-iterator ≡ l.fn.workers.items)
    × (map (λ h. h.promise.worker.value) l.handles.items ≡ l.yielded)
    × All (λ h. h.promise.cycles ≡ l.fn.cycles) l.handles.items
    × All (MayWork l.fn.cycles) (into_iter_items l.worker-iterator)
