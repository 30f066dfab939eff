use Rattle.cqf_output.proofs.WriterLemmas.{Puts-then}
use Rattle.cqf_program_tc.proofs.program.put_octal.Goals as goal

pub returns : goal.returns
returns g c = Puts-then _ _ c.put_byte.ensures
    (Puts-then _ _ c.put_byte-2.ensures
    (Puts-then _ _ c.put_byte-3.ensures
    (c.put_byte-4.ensures)))
