-- The gate indexes that were seen so far.
use Rattle.cqf_addressing.proofs.Seen.{HasSeen}
use Rattle.cqf_addressing.proofs.twice.first_gate_twice.Given as goal

abbrev pub invariant-loop-index : goal.invariant-loop-index
invariant-loop-index l = HasSeen l.addresses l.index l.seen
