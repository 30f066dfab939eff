use Rattle.std.proofs.Common.{◌≤◌}
use Rattle.cqf_test_runs.proofs.orders.try_all.Given as goal

-- no more events were done than were tried
abbrev pub invariant-loop-try : goal.invariant-loop-try
invariant-loop-try l = record {
  few_made : l.made ≤ l._try;
  few_done : l.done ≤ l._try;
}
