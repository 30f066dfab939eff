use Rattle.std.proofs.Common.{ap, codes}
use Rattle.cqf_output.proofs.WriterLemmas.{Puts-as, Puts-then}
use Rattle.cqf_program_json.specs.Arrays.{end_text}
use Rattle.cqf_program_json.specs.Text.{gate_entry}
use Rattle.cqf_program_json.proofs.Listing.{nil_length}
use Rattle.cqf_program_json.proofs.streams.put_gate_list.Goals as goal

pub returns : goal.returns
returns g c = Puts-then _ _ c.put.ensures
    (Puts-then _ _ c.put_number.ensures
    (Puts-then _ _ c.put-2.ensures
    (Puts-then _ _ c.put_gate_entries.ensures
    (Puts-as _ _ (ap (end_text (codes "          ")) (nil_length gate_entry c.args.entries.now)) c.put_end.ensures))))
