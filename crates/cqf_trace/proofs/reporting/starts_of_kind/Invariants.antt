use Rattle.std.proofs.Common.{◌≡◌}
use Rattle.cqf_trace.specs.Traces.{reported_in_cycles}
use Rattle.cqf_trace.specs.Reporting.{AreIndices}
use Rattle.cqf_trace.proofs.reporting.starts_of_kind.Given as goal

-- the transmissions of the cycles so far are collected
abbrev pub invariant-loop-cycle : goal.invariant-loop-cycle
invariant-loop-cycle l =
    (AreIndices l.domain l.kind l.traces l.cycle l.indices.items) × (l.starts.items ≡ reported_in_cycles l.domain l.kind l.traces l.cycle)
