use Rattle.std.proofs.Common.{ap, decimal}
use Rattle.cqf_output.proofs.WriterLemmas.{Puts-as, Puts-then}
use Rattle.cqf_program_json.specs.Arrays.{number_or_null}
use Rattle.cqf_program_json.specs.Text.{mac_or_null}
use Rattle.cqf_program_json.proofs.streams.put_address.Goals as goal

pub returns : goal.returns
returns g c = Puts-then _ _ c.put.ensures
    (Puts-then _ _ (Puts-as _ _ (ap decimal c.gate_index.ensures) c.put_number.ensures)
    (Puts-then _ _ c.put-2.ensures
    (Puts-then _ _ (Puts-as _ _ (ap mac_or_null c.mac_of_stream.ensures) c.put_mac_or_null.ensures)
    (Puts-then _ _ c.put-3.ensures
    (Puts-then _ _ (Puts-as _ _ (ap number_or_null c.vlan_of_stream.ensures) c.put_vlan_or_null.ensures)
    c.put-4.ensures)))))
