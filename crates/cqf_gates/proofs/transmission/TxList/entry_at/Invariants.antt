-- The rest of the offset in the round is after the entries so far.
use Rattle.std.proofs.Common.{◌≡◌, ◌+◌, ◌%◌, take}
use Rattle.cqf_model.specs.GateList.{round_of}
use Rattle.cqf_gates.proofs.transmission.TxList.entry_at.Given as goal

abbrev pub invariant-loop-index : goal.invariant-loop-index
invariant-loop-index l = round_of (take l.index l.entries) + l.offset ≡ l.fn.t.0 % round_of l.entries
