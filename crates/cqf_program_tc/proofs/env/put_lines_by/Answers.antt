use Rattle.cqf_output.proofs.WriterLemmas.{Puts-then}
use Rattle.cqf_program_tc.proofs.env.put_lines_by.Goals as goal

pub returns : goal.returns
returns g c = Puts-then _ _ c.put_new_lines.ensures
    (c.put_frame_lines.ensures)
