use Rattle.std.proofs.Common.{◌≡◌}
use Rattle.cqf_trace.specs.Traces.{drops_in_cycles}
use Rattle.cqf_trace.specs.Reporting.{AreDropIndices}
use Rattle.cqf_trace.proofs.reporting.all_drops.Given as goal

-- the drops of the cycles so far are collected
abbrev pub invariant-loop-cycle : goal.invariant-loop-cycle
invariant-loop-cycle l =
    (AreDropIndices l.domain l.traces l.cycle l.indices.items) × (l.drops.items ≡ drops_in_cycles l.domain l.traces l.cycle)
