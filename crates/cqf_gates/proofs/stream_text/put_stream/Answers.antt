-- One more entry is put.
use Rattle.std.proofs.Common.{◌+◌, None, sym, take}
use Rattle.cqf_gates.proofs.Written.{text_of_stream_entries-more}
use Rattle.cqf_gates.specs.StreamText.{text_of_stream_entries}
use Rattle.cqf_model.specs.declared.gates.StreamEntry.{StreamEntry}
use Rattle.cqf_output.proofs.WriterLemmas.{Puts-as, Puts-then}
use Rattle.cqf_gates.proofs.stream_text.put_stream.Goals as goal

pub loop-entry-preserved : goal.loop-entry-preserved
loop-entry-preserved g c =
    let blank : StreamEntry = record { ipv = 0; interval = 0; octet_max = None } in
    let entries = c.entries-entry-items.result.now in
    let k = c.loop-entry.entry-index in
    Puts-as _ (text_of_stream_entries (take (k + 1) entries)) (sym (text_of_stream_entries-more entries k blank c.loop-entry-test.true))
    (Puts-then (text_of_stream_entries (take k entries)) _ c.loop-entry.invariant (Puts-then _ _ c.put_entry.ensures c.put_byte.ensures))
