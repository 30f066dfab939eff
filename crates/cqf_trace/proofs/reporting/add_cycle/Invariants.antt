use Rattle.std.proofs.Common.{◌≡◌, ◌++◌}
use Rattle.cqf_trace.specs.Traces.{reported_on_links}
use Rattle.cqf_trace.proofs.Reported.{AreLinksPlacedTo}
use Rattle.cqf_trace.proofs.reporting.add_cycle.Given as goal

-- the entries of the links so far are appended, and their indices are those after the cycle
abbrev pub invariant-loop-link : goal.invariant-loop-link
invariant-loop-link l =
    (AreLinksPlacedTo l.domain l.kind l.traces l.cycle.0 l.link l.indices)
    × (l.reported.items ≡ l.fn.reported.items ++ reported_on_links l.domain l.kind l.traces l.cycle.0 l.link)
