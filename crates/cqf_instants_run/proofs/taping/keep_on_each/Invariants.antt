-- The first traces have what their links' ports start.
use Rattle.std.proofs.Common.{◌≡◌, ◌++◌, [], get_or, length}
use Rattle.std.specs.Vec.Iter.{into_iter_items}
use Rattle.cqf_lists.specs.ByNumber.{lists_of}
use Rattle.cqf_instants_run.proofs.Traces.{FirstTake}
use Rattle.cqf_instants_run.proofs.taping.keep_on_each.Given as goal

abbrev pub invariant-loop-frames : goal.invariant-loop-frames
invariant-loop-frames l =
    (l.yielded ++ into_iter_items l.frames-iterator ≡ l.fn.lists.items)
    × (length l.yielded ≡ l.index)
    × FirstTake l.domain l.end.0 (λ k. get_or (lists_of l.fn.lists.items) k []) l.fn.traces l.traces l.index
