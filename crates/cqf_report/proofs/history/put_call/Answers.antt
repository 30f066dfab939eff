use Rattle.cqf_output.proofs.WriterLemmas.{Puts-then}
use Rattle.cqf_report.proofs.history.put_call.Goals as goal

pub returns : goal.returns
returns g c = Puts-then _ _ c.put_number.ensures
    (Puts-then _ _ c.put.ensures (Puts-then _ _ (rw c.as_bytes.ensures.value at c.put-2.ensures) (Puts-then _ _ c.put-3.ensures c.put_reply.ensures)))
