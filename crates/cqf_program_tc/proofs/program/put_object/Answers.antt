use Rattle.cqf_output.proofs.WriterLemmas.{Puts-then}
use Rattle.cqf_program_tc.proofs.program.put_object.Goals as goal

pub returns : goal.returns
returns g c = Puts-then _ _ c.put.ensures
    (Puts-then _ _ c.put-2.ensures
    (Puts-then _ _ c.put-3.ensures
    (Puts-then _ _ c.put-4.ensures
    (Puts-then _ _ c.put-5.ensures
    (Puts-then _ _ c.put_octal_word.ensures
    (Puts-then _ _ c.put-6.ensures
    (Puts-then _ _ c.put-7.ensures
    (Puts-then _ _ c.put-8.ensures
    (Puts-then _ _ c.put-9.ensures
    (Puts-then _ _ c.put-10.ensures
    (Puts-then _ _ c.put-11.ensures
    (Puts-then _ _ c.put-12.ensures
    (Puts-then _ _ c.put-13.ensures
    (Puts-then _ _ c.put-14.ensures
    (Puts-then _ _ c.put-15.ensures
    (Puts-then _ _ c.put-16.ensures
    (c.put-17.ensures)))))))))))))))))
