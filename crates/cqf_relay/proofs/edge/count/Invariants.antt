-- There are as many counters as were counted to, and the same is used of each row as before.
use Rattle.std.proofs.Common.{◌≤◌, vec_len}
use Rattle.cqf_relay.proofs.Offers.{AreUsedAlike}
use Rattle.cqf_relay.proofs.edge.count.Given as goal

abbrev pub invariant-loop-between : goal.invariant-loop-between
invariant-loop-between l = record {
  room : l._between ≤ vec_len l.used;
  alike : AreUsedAlike l.fn.used.items l.used.items;
}
