-- The sum is that of the entries so far.
use Rattle.std.proofs.Common.{◌≡◌, ◌*◌, ◌≤◌, ◌^◌, take}
use Rattle.cqf_model.specs.StreamGate.{gate_round}
use Rattle.cqf_program_json.proofs.streams.round_of.Given as goal

abbrev pub invariant-loop-entry : goal.invariant-loop-entry
invariant-loop-entry l = record {
  value : l.nanos ≡ gate_round (take l.entry-index l.entries);
  short : l.nanos ≤ l.entry-index * 2 ^ 32;
}
