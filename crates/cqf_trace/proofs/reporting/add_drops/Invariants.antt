use Rattle.std.proofs.Common.{◌≡◌, ◌++◌}
use Rattle.cqf_trace.specs.Traces.{drops_at_bridges}
use Rattle.cqf_trace.proofs.Reported.{AreBridgesPlacedTo}
use Rattle.cqf_trace.proofs.reporting.add_drops.Given as goal

-- the drops of the bridges so far are appended, and their indices are those after the cycle
abbrev pub invariant-loop-bridge : goal.invariant-loop-bridge
invariant-loop-bridge l =
    (AreBridgesPlacedTo l.domain l.traces l.cycle.0 l.bridge l.indices)
    × (l.reported.items ≡ l.fn.reported.items ++ drops_at_bridges l.traces l.cycle.0 l.bridge)
