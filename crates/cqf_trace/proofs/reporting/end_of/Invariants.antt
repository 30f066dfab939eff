use Rattle.cqf_trace.proofs.Segments.{NoneLater}
use Rattle.cqf_trace.proofs.reporting.end_of.Given as goal

-- no mark before the index is of a later cycle
abbrev pub invariant-loop-index : goal.invariant-loop-index
invariant-loop-index l = NoneLater l.domain l.fn.cycle.0 l.marks l.index
