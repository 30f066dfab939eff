use Rattle.std.proofs.Common.{None, sym}
use Rattle.cqf_model.specs.declared.gates.StreamEntry.{StreamEntry}
use Rattle.cqf_output.proofs.WriterLemmas.{Puts-as, Puts-then}
use Rattle.cqf_program_json.specs.Text.{gate_entry}
use Rattle.cqf_program_json.proofs.Listing.{listed_at}
use Rattle.cqf_program_json.proofs.streams.put_gate_entries.Goals as goal

pub loop-index-preserved : goal.loop-index-preserved
loop-index-preserved g c =
    let blank : StreamEntry = record { ipv = 0; interval = 0; octet_max = None } in
    Puts-as _ _ (sym (listed_at gate_entry c.args.entries.now c.loop-index.index blank c.loop-index-test.true))
    (Puts-then _ _ c.loop-index.invariant (Puts-then _ _ c.put_front.ensures c.put_gate_entry.ensures))
