use Rattle.cqf_output.proofs.WriterLemmas.{Puts-then}
use Rattle.cqf_program_tc.proofs.frame.put_no_gates_function.Goals as goal

pub returns : goal.returns
returns g c = Puts-then _ _ c.put.ensures
    (Puts-then _ _ c.put-2.ensures
    (Puts-then _ _ c.put-3.ensures
    c.put-4.ensures))
