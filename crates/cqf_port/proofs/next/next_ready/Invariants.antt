use Rattle.std.proofs.Common.{ℕ, ◌≤◌, ◌<◌, ◌-◌}
use Rattle.cqf_port.specs.PortState.{rules_of}
use Rattle.cqf_port.specs.Progress.{NoneReady}
use Rattle.cqf_port.proofs.next.next_ready.Given as goal

-- no head was ready so far
abbrev pub invariant-events : goal.invariant-events
invariant-events l = record {
  from : l.fn.from.0 ≤ l.t;
  in_time : l.t ≤ l.horizon;
  none : (s : ℕ) → l.fn.from.0 ≤ s → s < l.t → NoneReady (rules_of l.egress.schedule.now l.egress.rate) l.egress.arrivals.now l.heads s 0;
}

-- what is left to the horizon
abbrev pub decreases-events : goal.decreases-events
decreases-events l = l.horizon - l.t
