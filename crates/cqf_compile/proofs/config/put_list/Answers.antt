-- One more entry is put.
use Rattle.std.proofs.Common.{◌+◌, sym, take}
use Rattle.cqf_gates.proofs.Written.{text_of_entries-more}
use Rattle.cqf_gates.specs.GateListText.{text_of_entries}
use Rattle.cqf_output.proofs.WriterLemmas.{Puts-as, Puts-then}
use Rattle.cqf_compile.proofs.config.put_list.Goals as goal

pub loop-entry-preserved : goal.loop-entry-preserved
loop-entry-preserved g c =
    let entries = c.entries-entry-items.result.now in
    let k = c.loop-entry.entry-index in
    Puts-as _ (text_of_entries (take (k + 1) entries)) (sym (text_of_entries-more entries k (0, 0) c.loop-entry-test.true))
    (Puts-then _ _ (Puts-then (text_of_entries (take k entries)) _ c.loop-entry.invariant c.put_gates.ensures) c.put_byte.ensures)
