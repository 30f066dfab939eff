use Rattle.std.proofs.Common.{ℕ, ◌<◌, ◌≤◌, ◌-◌, ◌^◌, None, get_or}
use Rattle.cqf_port.specs.PortState.{rules_of}
use Rattle.cqf_port.specs.Quiet.{IsIdleOf, OneTurns}
use Rattle.cqf_port.proofs.quiet.idle_until.Given as goal

-- the classes so far are idle
abbrev pub invariant-loop-class : goal.invariant-loop-class
invariant-loop-class l = record {
  later : l.t.0 < l.until;
  idle : (class : ℕ) → class < l.class → IsIdleOf (rules_of l.egress.schedule.now l.egress.rate) l.egress.arrivals.now (get_or l.heads class None)
      l.t.0 l.until;
  within : l.until ≤ 2 ^ 64 - 1;
  turns : l.until < 2 ^ 64 - 1 → OneTurns (rules_of l.egress.schedule.now l.egress.rate) l.egress.arrivals.now l.heads l.until;
}
