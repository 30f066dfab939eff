use Rattle.cqf_output.proofs.WriterLemmas.{Puts-then}
use Rattle.cqf_program_json.proofs.streams.put_stream_head.Goals as goal

pub returns : goal.returns
returns g c = Puts-then _ _ c.put.ensures
    (Puts-then _ _ (rw c.as_bytes.ensures.value at c.put-2.ensures)
    (Puts-then _ _ c.put-3.ensures
    (Puts-then _ _ c.put_ingress_name.ensures
    (Puts-then _ _ c.put-4.ensures
    (Puts-then _ _ c.put_ingress_interface.ensures
    c.put-5.ensures)))))
