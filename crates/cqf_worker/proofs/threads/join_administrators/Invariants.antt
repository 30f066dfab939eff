use Rattle.std.proofs.Common.{◌≡◌, ◌++◌, List, [], Result}
use Rattle.std.specs.List.{AllZip}
use Rattle.std.specs.Vec.Iter.{into_iter_items}
use Rattle.cqf_worker.specs.Faults.{IsClean}
use Rattle.cqf_desk.specs.Desk.{Sitting}
use Rattle.cqf_worker_loops.specs.declared.calling.Unmade.{Unmade}
use Rattle.cqf_worker.specs.Noting.{NotesAll, fault_of_caller}
use Rattle.cqf_worker.specs.Running.{CallAnswers, CallsOf}
use Rattle.cqf_worker.proofs.threads.join_administrators.Given as goal

-- while nothing has gone wrong, each administrator so far has made its commands
abbrev pub invariant-loop-handle : goal.invariant-loop-handle
invariant-loop-handle g l =
    (l.yielded ++ into_iter_items l.handle-iterator ≡ l.fn.handles.items)
    × (IsClean l.faults → IsClean l.fn.faults)
    × (IsClean l.faults → AllZip (λ h done. CallsOf h.promise.administrator.value done) l.yielded l.seats.items)
    × ((answers : List (Result Sitting Unmade)) × AllZip (λ h answer. CallAnswers h.promise.administrator.value answer) l.yielded answers
    × NotesAll fault_of_caller l.fn.faults l.faults [] l.seats.items answers)
