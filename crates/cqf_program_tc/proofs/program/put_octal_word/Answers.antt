use Rattle.cqf_output.proofs.WriterLemmas.{Puts-then}
use Rattle.cqf_program_tc.proofs.program.put_octal_word.Goals as goal

pub returns : goal.returns
returns g c = Puts-then _ _ c.put_octal.ensures
    (Puts-then _ _ c.put_octal-2.ensures
    (Puts-then _ _ c.put_octal-3.ensures
    (c.put_octal-4.ensures)))
