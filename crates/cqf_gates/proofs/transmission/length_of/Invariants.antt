-- The sum is that of the entries so far.
use Rattle.std.proofs.Common.{◌≡◌, ◌≤◌, ◌*◌, ◌^◌, take}
use Rattle.cqf_model.specs.GateList.{round_of}
use Rattle.cqf_gates.proofs.transmission.length_of.Given as goal

abbrev pub invariant-loop-entry : goal.invariant-loop-entry
invariant-loop-entry l = record {
  value : l.nanos ≡ round_of (take l.entry-index l.entries);
  short : l.nanos ≤ l.entry-index * 2 ^ 32;
}
