use Rattle.cqf_output.proofs.WriterLemmas.{Puts-then}
use Rattle.cqf_program_tc.proofs.written.put_functions.Goals as goal

pub returns : goal.returns
returns g c = Puts-then _ _ c.put_checks.ensures
    (Puts-then _ _ c.put_program.ensures
    (Puts-then _ _ c.put_link_note.ensures
    (Puts-then _ _ c.put_link_function.ensures
    (Puts-then _ _ c.put_old_gates_function.ensures
    (Puts-then _ _ c.put_no_gates_function.ensures
    (Puts-then _ _ c.put_gate_function.ensures
    (c.put_list_gates.ensures)))))))
