use Rattle.cqf_output.proofs.WriterLemmas.{Puts-then}
use Rattle.cqf_program_tc.proofs.frame.put_list_command.Goals as goal

pub returns : goal.returns
returns g c = Puts-then _ _ c.put.ensures
    (Puts-then _ _ c.put-2.ensures
    (Puts-then _ _ c.put_port_words.ensures
    ((rw c.port_end.ensures at c.put-3.ensures))))
