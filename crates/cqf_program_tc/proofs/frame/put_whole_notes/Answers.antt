use Rattle.cqf_output.proofs.WriterLemmas.{Puts-then}
use Rattle.cqf_program_tc.proofs.frame.put_whole_notes.Goals as goal

pub returns : goal.returns
returns g c = Puts-then _ _ c.put.ensures c.put-2.ensures
