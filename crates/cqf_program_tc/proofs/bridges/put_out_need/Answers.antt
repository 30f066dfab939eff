use Rattle.cqf_output.proofs.WriterLemmas.{Puts-then}
use Rattle.cqf_program_tc.proofs.bridges.put_out_need.Goals as goal

pub returns : goal.returns
returns g c = Puts-then _ _ c.put.ensures
    (Puts-then _ _ c.put_link_variable.ensures
    (Puts-then _ _ c.put-2.ensures
    (Puts-then _ _ c.put_link_variable-2.ensures
    (Puts-then _ _ c.put-3.ensures
    (Puts-then _ _ c.put_end.ensures
    (Puts-then _ _ c.put-4.ensures
    (Puts-then _ _ c.put_bridge.ensures
    (Puts-then _ _ c.put-5.ensures
    (Puts-then _ _ c.put_end-2.ensures
    (c.put-6.ensures))))))))))
