use Rattle.cqf_output.proofs.WriterLemmas.{Puts-then}
use Rattle.cqf_program_tc.proofs.bridges.put_plain_call.Goals as goal

pub returns : goal.returns
returns g c = Puts-then _ _ c.put.ensures
    (Puts-then _ _ c.put_gate_target.ensures
    (Puts-then _ _ c.put-2.ensures
    (c.put_number.ensures)))
