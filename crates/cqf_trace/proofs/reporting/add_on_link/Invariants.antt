use Rattle.std.proofs.Common.{◌≡◌, ◌++◌, map, take}
use Rattle.cqf_trace.specs.Traces.{started_in}
use Rattle.cqf_trace.proofs.reporting.add_on_link.Given as goal

-- the entries of the cycle's first marks are appended
abbrev pub invariant-loop-mark : goal.invariant-loop-mark
invariant-loop-mark l = l.reported.items ≡ l.fn.reported.items ++ map (started_in l.cycle.0 l.link) (take l.mark-index l.own)
