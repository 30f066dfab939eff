use Rattle.cqf_output.proofs.WriterLemmas.{Puts-then}
use Rattle.cqf_program_tc.proofs.bridges.put_needs_by.Goals as goal

pub returns : goal.returns
returns g c = Puts-then _ _ c.put_new_need.ensures
    c.put_frame_needs.ensures
