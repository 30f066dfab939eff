use Rattle.std.proofs.Common.{◌≤◌, ◌<◌, ◌^◌}
use Rattle.cqf_port.specs.NextStart.{HaveCome}
use Rattle.cqf_port.proofs.next.all_come.Given as goal

-- the heads so far have come
abbrev pub invariant-loop-class : goal.invariant-loop-class
invariant-loop-class l = record {
  from : l.fn.from.0 ≤ l.latest;
  soon : l.latest < 2 ^ 63;
  come : HaveCome l.arrivals l.heads l.class l.latest;
}
