use Rattle.cqf_output.proofs.WriterLemmas.{Puts-then}
use Rattle.cqf_program_tc.proofs.written.put_script.Goals as goal

pub returns : goal.returns
returns g c = Puts-then _ _ c.put_usage.ensures
    (Puts-then _ _ c.put_notes.ensures
    (Puts-then _ _ c.put_opening.ensures
    (Puts-then _ _ c.put_given.ensures
    (Puts-then _ _ c.put_functions.ensures
    (Puts-then _ _ c.put_bridges.ensures
    (c.put_choice.ensures))))))
