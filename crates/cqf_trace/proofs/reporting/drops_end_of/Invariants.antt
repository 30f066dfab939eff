use Rattle.cqf_trace.proofs.Segments.{NoDropLater}
use Rattle.cqf_trace.proofs.reporting.drops_end_of.Given as goal

-- no drop before the index is of a later cycle
abbrev pub invariant-loop-index : goal.invariant-loop-index
invariant-loop-index l = NoDropLater l.fn.cycle.0 l.drops l.index
