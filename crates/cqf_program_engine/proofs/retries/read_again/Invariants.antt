-- Nothing was read yet; and after a try, there is a kind of error with which the reader may fail.
use Rattle.std.proofs.Common.{◌≡◌, ◌<◌, length}
use Rattle.std.specs.Io.KnownBytes.{Keeps}
use Rattle.cqf_output.specs.Kinds.{SomeKind}
use Rattle.cqf_program_engine.proofs.retries.read_again.Given as goal

abbrev pub invariant-loop : goal.invariant-loop
invariant-loop g l = record {
  long : length l.buffer ≡ length l.initial.buffer;
  kept : Keeps (g.R.Read.remaining l.initial.reader) (g.R.Read.remaining l.reader);
  may : 0 < l.counter → SomeKind g.R.Source.fails;
}
