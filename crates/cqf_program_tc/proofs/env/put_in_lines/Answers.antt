use Rattle.cqf_output.proofs.WriterLemmas.{Puts-then}
use Rattle.cqf_program_tc.proofs.env.put_in_lines.Goals as goal

pub returns : goal.returns
returns g c = Puts-then _ _ c.put.ensures
    (Puts-then _ _ c.put_bridge.ensures
    (Puts-then _ _ c.put-2.ensures
    (Puts-then _ _ (rw c.bridge_of-from.ensures at c.put_bridge-2.ensures)
    (Puts-then _ _ c.put-3.ensures
    (Puts-then _ _ c.put_link_variable.ensures
    (Puts-then _ _ c.put-4.ensures
    (Puts-then _ _ (rw c.far_interface.ensures at c.put_interface.ensures)
    (c.put-5.ensures))))))))
