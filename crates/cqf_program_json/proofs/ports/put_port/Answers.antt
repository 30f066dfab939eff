use Rattle.std.proofs.Common.{◌∙◌, ap}
use Rattle.cqf_output.proofs.WriterLemmas.{Puts-as, Puts-then}
use Rattle.cqf_program_json.specs.Text.{port_list_text, port_round}
use Rattle.cqf_program_json.proofs.ports.put_port.Goals as goal

pub returns : goal.returns
returns g c = Puts-then _ _ c.put_port_head.ensures
    (Puts-then _ _ (Puts-as _ _ (ap port_list_text (c.entries.ensures.value ∙ c.port_list_of-list.ensures)) c.put_port_list.ensures)
    (Puts-then _ _ c.put.ensures
    (Puts-as _ _ (ap port_round c.port_list_of-list.ensures) c.put_port_round.ensures)))
