use Rattle.cqf_output.proofs.WriterLemmas.{Puts-then}
use Rattle.cqf_program_json.proofs.bridges.put_bridge_object.Goals as goal

pub returns : goal.returns
returns g c = Puts-then _ _ c.put.ensures
    (Puts-then _ _ c.put_bridge.ensures
    (Puts-then _ _ c.put-2.ensures
    (Puts-then _ _ c.put_ports.ensures
    (Puts-then _ _ c.put-3.ensures
    (Puts-then _ _ c.put_streams.ensures
    (c.put-4.ensures))))))
