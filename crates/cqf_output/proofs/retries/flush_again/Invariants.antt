-- Nothing was taken yet; after the first attempt, there is a kind of error for which the writer may refuse.
use Rattle.std.proofs.Common.{◌<◌}
use Rattle.std.specs.Io.KnownBytes.{Keeps}
use Rattle.cqf_output.specs.Kinds.{SomeKind}
use Rattle.cqf_output.proofs.retries.flush_again.Given as goal

abbrev pub invariant-loop : goal.invariant-loop
invariant-loop g l = record {
  kept : Keeps (g.W.Write.contents l.initial.writer) (g.W.Write.contents l.writer);
  may : 0 < l.counter → SomeKind g.W.Sink.refuses;
}
