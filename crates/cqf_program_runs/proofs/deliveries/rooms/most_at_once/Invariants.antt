-- The most of the offers so far; it is at most the number of offers.
use Rattle.std.proofs.Common.{◌+◌, ◌<◌, ◌≤◌}
use Rattle.cqf_program_runs.proofs.InOrder.{EnoughBelow}
use Rattle.cqf_program_runs.proofs.deliveries.rooms.most_at_once.Given as goal

abbrev pub invariant-loop-index : goal.invariant-loop-index
invariant-loop-index l = record {
  some : 0 < l.most;
  few : l.most ≤ l.index + 1;
  enough : EnoughBelow l.domain.cycle_time l.offers l.hop_number l.index l.most;
}
