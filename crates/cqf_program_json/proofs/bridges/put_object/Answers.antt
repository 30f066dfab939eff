use Rattle.std.proofs.Common.{ap, decimal}
use Rattle.cqf_output.proofs.WriterLemmas.{Puts-as, Puts-then}
use Rattle.cqf_program_json.proofs.bridges.put_object.Goals as goal

pub returns : goal.returns
returns g c = Puts-then _ _ c.put.ensures
    (Puts-then _ _ (Puts-as _ _ (ap decimal c.cycle_time.ensures.value) c.put_number.ensures)
    (Puts-then _ _ c.put-2.ensures
    (Puts-then _ _ (Puts-as _ _ (ap decimal c.guard.ensures) c.put_number-2.ensures)
    (Puts-then _ _ c.put-3.ensures
    (Puts-then _ _ c.put_bridges.ensures
    c.put-4.ensures)))))
