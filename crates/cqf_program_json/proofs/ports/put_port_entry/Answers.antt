use Rattle.cqf_output.proofs.WriterLemmas.{Puts-then}
use Rattle.cqf_program_json.proofs.ports.put_port_entry.Goals as goal

pub returns : goal.returns
returns g c = Puts-then _ _ c.put.ensures
    (Puts-then _ _ c.put_number.ensures
    (Puts-then _ _ c.put-2.ensures
    (Puts-then _ _ c.put_number-2.ensures
    (c.put-3.ensures))))
