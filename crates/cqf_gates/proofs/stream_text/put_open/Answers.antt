use Rattle.cqf_output.proofs.WriterLemmas.{Puts-as, Puts-then}
use Rattle.cqf_gates.proofs.Written.{open_pieces}
use Rattle.cqf_gates.proofs.stream_text.put_open.Goals as goal

pub returns : goal.returns
returns g c = Puts-as _ _ (open_pieces c.args.entry)
    (Puts-then _ _ c.put.ensures
    (Puts-then _ _ c.put_number.ensures
    (Puts-then _ _ c.put-2.ensures
    (Puts-then _ _ c.put_number-2.ensures
    (Puts-then _ _ c.put-3.ensures
    c.put_maximum.ensures)))))
