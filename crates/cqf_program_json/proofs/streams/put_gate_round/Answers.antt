use Rattle.std.proofs.Common.{ap, decimal}
use Rattle.cqf_output.proofs.WriterLemmas.{Puts-as, Puts-then}
use Rattle.cqf_program_json.proofs.streams.put_gate_round.Goals as goal

pub returns : goal.returns
returns g c = Puts-then _ _ c.put.ensures
    (Puts-then _ _ (Puts-as _ _ (ap decimal c.round_of.ensures) c.put_number.ensures)
    (Puts-then _ _ c.put-2.ensures
    c.put-3.ensures))
