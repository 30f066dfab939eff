-- One more entry is put.
use Rattle.std.proofs.Common.{◌+◌, None, sym, take}
use Rattle.cqf_model.specs.declared.gates.StreamEntry.{StreamEntry}
use Rattle.cqf_output.proofs.WriterLemmas.{Puts-as, Puts-then}
use Rattle.cqf_program_tc.proofs.WordLemmas.{list_words-more}
use Rattle.cqf_program_tc.specs.Words.{list_words}
use Rattle.cqf_program_tc.proofs.lists.put_list_words.Goals as goal

pub loop-entry-preserved : goal.loop-entry-preserved
loop-entry-preserved g c =
    let blank : StreamEntry = record { ipv = 0; interval = 0; octet_max = None } in
    let entries = c.entries-entry-items.result.now in
    let k = c.loop-entry.entry-index in
    Puts-as _ (list_words (take (k + 1) entries)) (sym (list_words-more entries k blank c.loop-entry-test.true))
    (Puts-then (list_words (take k entries)) _ c.loop-entry.invariant c.put_entry_words.ensures)
