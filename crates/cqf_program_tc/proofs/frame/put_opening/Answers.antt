use Rattle.cqf_output.proofs.WriterLemmas.{Puts-then}
use Rattle.cqf_program_tc.proofs.frame.put_opening.Goals as goal

pub returns : goal.returns
returns g c = Puts-then _ _ c.put.ensures
    (Puts-then _ _ c.put_names.ensures
    (Puts-then _ _ c.put-2.ensures
    c.put-3.ensures))
