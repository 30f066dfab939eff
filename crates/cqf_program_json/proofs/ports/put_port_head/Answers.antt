use Rattle.std.proofs.Common.{ap}
use Rattle.cqf_output.proofs.WriterLemmas.{Puts-as, Puts-then}
use Rattle.cqf_program_json.specs.Arrays.{name_or_null}
use Rattle.cqf_program_json.proofs.ports.put_port_head.Goals as goal

pub returns : goal.returns
returns g c = Puts-then _ _ c.put.ensures
    (Puts-then _ _ c.put_link.ensures
    (Puts-then _ _ c.put-2.ensures
    (Puts-then _ _ (Puts-as _ _ (ap name_or_null c.near_interface.ensures) c.put_name_or_null.ensures)
    c.put-3.ensures)))
