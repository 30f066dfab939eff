-- The words of the entries so far are put, each in the range of its type.
use Rattle.std.proofs.Common.{◌<◌, ◌^◌, All, take}
use Rattle.cqf_model.specs.GateList.{Entry}
use Rattle.cqf_output.specs.Writer.{Puts}
use Rattle.cqf_program_tc.specs.Words.{tx_words}
use Rattle.cqf_program_tc.proofs.words.put_tx_words.Given as goal

abbrev pub invariant-loop-entry : goal.invariant-loop-entry
invariant-loop-entry g l = record {
  written : Puts g.W.Write.contents l.initial.writer l.writer (tx_words (take l.entry-index l.entry-items));
  ranges : All (λ (entry : Entry). (entry.0 < 256) × (entry.1 < 2 ^ 32)) (take l.entry-index l.entry-items);
}
