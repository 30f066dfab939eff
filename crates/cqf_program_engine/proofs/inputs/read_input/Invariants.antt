use Rattle.std.proofs.Common.{◌≡◌, ◌≤◌, ◌+◌, ◌-◌, false, length}
use Rattle.std.specs.Io.KnownBytes.{Consumes}
use Rattle.cqf_program_engine.proofs.inputs.read_input.Given as goal

abbrev pub invariant-loop-input : goal.invariant-loop-input
invariant-loop-input g l = record {
  taken : Consumes (g.R.Read.remaining l.fn.input.reader) (g.R.Read.remaining l.input.reader) l.input.bytes;
  few : length l.input.bytes ≤ l.most + 1;
  sound : l.input.failed ≡ false;
}

abbrev pub decreases-loop-input : goal.decreases-loop-input
decreases-loop-input g l = l.most + 1 - length l.input.bytes
