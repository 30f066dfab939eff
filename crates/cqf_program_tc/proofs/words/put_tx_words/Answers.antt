-- The words of one more entry are put.
use Rattle.std.proofs.Common.{All, take, ◌+◌, ◌≡◌, ◌<◌, ◌^◌, ◌∙◌, sym}
use Rattle.std.proofs.lemmas.List.Elements.{All-more}
use Rattle.std.proofs.lemmas.List.{take_all}
use Rattle.cqf_model.specs.GateList.{Entry}
use Rattle.cqf_output.proofs.WriterLemmas.{Puts-as, Puts-then}
use Rattle.cqf_program_tc.specs.Words.{tx_words}
use Rattle.cqf_program_tc.proofs.WordLemmas.{tx_again, tx_words-more}
use Rattle.cqf_program_tc.proofs.words.put_tx_words.Goals as goal

pub loop-entry-preserved : goal.loop-entry-preserved
loop-entry-preserved g c =
    let entries = c.entries-entry-items.result.now in
    let k = c.loop-entry.entry-index in
    record {
      written = Puts-as _ (tx_words (take (k + 1) entries)) (sym (tx_words-more entries k (0, 0) c.loop-entry-test.true))
          (Puts-then (tx_words (take k entries)) _ c.loop-entry.invariant.written c.put_entry.ensures.words);
      ranges = All-more (λ (entry : Entry). (entry.0 < 256) × (entry.1 < 2 ^ 32)) entries k (0, 0) c.loop-entry-test.true c.loop-entry.invariant.ranges
          c.put_entry.ensures.ranges;
    }

pub returns-clause-again : goal.returns-clause-again
returns-clause-again g c =
    let entries = c.args.list.now in
    let same = c.entries-entry-items.ensures.value in
    let whole : take c.loop-entry.entry-index c.entries-entry-items.result.now ≡ entries =
    take_all c.loop-entry.entry-index c.entries-entry-items.result.now c.loop-entry-test.false ∙ same in
    let ranges : All (λ (entry : Entry). (entry.0 < 256) × (entry.1 < 2 ^ 32)) entries = rw (← whole) c.loop-entry.invariant.ranges in
    tx_again entries c.entries-entry-items.ensures.facts ranges
