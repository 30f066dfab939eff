use Rattle.std.proofs.Common.{◌≡◌, ◌++◌, [], All, map}
use Rattle.std.specs.Vec.Iter.{into_iter_items}
use Rattle.cqf_worker.proofs.threads.start_administrators.Given as goal

-- each administrator so far has its thread, and the others have made no calls
abbrev pub invariant-loop-administrator : goal.invariant-loop-administrator
invariant-loop-administrator g l =
    (l.yielded ++ into_iter_items l.administrator-iterator ≡ l.fn.administrators.items)
    × (map (λ h. h.promise.administrator.value) l.handles.items ≡ l.yielded)
    × All (λ a. a.seat.calls ≡ []) (into_iter_items l.administrator-iterator)
