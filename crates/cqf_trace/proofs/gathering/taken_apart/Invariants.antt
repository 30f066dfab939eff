use Rattle.std.specs.Vec.Iter.{into_iter_items}
use Rattle.cqf_trace.proofs.Rows.{IsTakenUpTo, drops_on, traces_on}
use Rattle.cqf_trace.proofs.gathering.taken_apart.Given as goal

-- the bridge traces so far are taken apart
abbrev pub invariant-loop-bridge_trace : goal.invariant-loop-bridge_trace
invariant-loop-bridge_trace l =
    (IsTakenUpTo traces_on l.traces.items (into_iter_items l.bridge_trace-iterator) l.fn.bridge_traces.items)
    × (IsTakenUpTo drops_on l.drops.items (into_iter_items l.bridge_trace-iterator) l.fn.bridge_traces.items)
