use Rattle.std.proofs.Common.{◌≡◌, ◌++◌, List, [], Result}
use Rattle.std.specs.List.{AllZip}
use Rattle.std.specs.Vec.Iter.{into_iter_items}
use Rattle.cqf_worker.specs.Faults.{IsClean}
use Rattle.cqf_worker_loops.specs.Workers.{Works}
use Rattle.cqf_worker_loops.specs.declared.worker.GaveUp.{GaveUp}
use Rattle.cqf_worker_loops.specs.declared.worker.Worker.{Worker}
use Rattle.cqf_worker.specs.Noting.{NotesAll, fault_of_worker}
use Rattle.cqf_worker.specs.Running.{AnswersWorker}
use Rattle.cqf_worker.proofs.threads.join_workers.Given as goal

-- while nothing has gone wrong, each worker so far has done its part
abbrev pub invariant-loop-handle : goal.invariant-loop-handle
invariant-loop-handle g l =
    (l.yielded ++ into_iter_items l.handle-iterator ≡ l.fn.handles.items)
    × (IsClean l.faults → IsClean l.fn.faults)
    × (IsClean l.faults → AllZip (λ h done. Works h.promise.cycles h.promise.worker.value done) l.yielded l.workers.items)
    × ((answers : List (Result Worker GaveUp)) × AllZip (λ h answer. AnswersWorker h.promise.cycles h.promise.worker.value answer) l.yielded answers
    × NotesAll fault_of_worker l.fn.faults l.faults [] l.workers.items answers)
