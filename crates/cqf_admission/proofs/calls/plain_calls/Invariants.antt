-- The calls so far have the same acts.
use Rattle.std.proofs.Common.{◌≡◌, ◌++◌, map}
use Rattle.std.specs.Vec.Iter.{into_iter_items}
use Rattle.cqf_admission.specs.Script.{called_of}
use Rattle.cqf_admission.proofs.calls.plain_calls.Given as goal

abbrev pub invariant-loop-call : goal.invariant-loop-call
invariant-loop-call l =
    (l.yielded ++ into_iter_items l.call-iterator ≡ l.fn.calls.items)
    × (map called_of l.plain.items ≡ map called_of l.yielded)
