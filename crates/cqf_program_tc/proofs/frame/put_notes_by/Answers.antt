use Rattle.cqf_output.proofs.WriterLemmas.{Puts-then}
use Rattle.cqf_program_tc.proofs.frame.put_notes_by.Goals as goal

pub returns : goal.returns
returns g c = Puts-then _ _ c.put_counting_notes.ensures
    (Puts-then _ _ c.put_kind_notes.ensures
    (Puts-then _ _ c.put.ensures
    (c.put-2.ensures)))
