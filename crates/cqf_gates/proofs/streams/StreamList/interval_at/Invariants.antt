-- The rest of the offset in the round is after the entries so far.
use Rattle.std.proofs.Common.{◌≡◌, ◌+◌, ◌%◌, take, drop}
use Rattle.cqf_model.specs.StreamGate.{gate_round, index_in, index_at}
use Rattle.cqf_gates.proofs.streams.StreamList.interval_at.Given as goal

abbrev pub invariant-loop-index : goal.invariant-loop-index
invariant-loop-index l = record {
  rest : gate_round (take l.index l.entries) + l.offset ≡ l.fn.t.0 % gate_round l.entries;
  index : l.index + index_in (drop l.index l.entries) l.offset ≡ index_at l.entries l.fn.t.0;
}
