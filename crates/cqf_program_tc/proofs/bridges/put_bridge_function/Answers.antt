use Rattle.cqf_output.proofs.WriterLemmas.{Puts-then}
use Rattle.cqf_program_tc.proofs.bridges.put_bridge_function.Goals as goal

pub returns : goal.returns
returns g c = Puts-then _ _ c.put.ensures
    (Puts-then _ _ c.put_number.ensures
    (Puts-then _ _ c.put-2.ensures
    (Puts-then _ _ c.put_bridge.ensures
    (Puts-then _ _ c.put-3.ensures
    (Puts-then _ _ c.put_out_needs.ensures
    (Puts-then _ _ c.put_needs.ensures
    (Puts-then _ _ c.put-4.ensures
    (Puts-then _ _ c.put_clearings.ensures
    (Puts-then _ _ c.put_links.ensures
    (Puts-then _ _ c.put_streams.ensures
    c.put-5.ensures))))))))))
