use Rattle.cqf_output.proofs.WriterLemmas.{Puts-then}
use Rattle.cqf_program_tc.proofs.checks.put_checks.Goals as goal

pub returns : goal.returns
returns g c = Puts-then _ _ c.put_agree.ensures
    (Puts-then _ _ c.put_jump.ensures
    (Puts-then _ _ c.put_port.ensures
    (Puts-then _ _ c.put_frames.ensures
    (Puts-then _ _ c.put_ready.ensures
    (c.put_take_back.ensures)))))
