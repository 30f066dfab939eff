use Rattle.std.proofs.Common.{sym}
use Rattle.cqf_output.proofs.WriterLemmas.{Puts-as, Puts-then}
use Rattle.cqf_program_json.specs.Text.{port_entry}
use Rattle.cqf_program_json.proofs.Listing.{listed_at}
use Rattle.cqf_program_json.proofs.ports.put_port_entries.Goals as goal

pub loop-index-preserved : goal.loop-index-preserved
loop-index-preserved g c =
    Puts-as _ _ (sym (listed_at port_entry c.args.entries.now c.loop-index.index (0, 0) c.loop-index-test.true))
    (Puts-then _ _ c.loop-index.invariant (Puts-then _ _ c.put_front.ensures c.put_port_entry.ensures))
