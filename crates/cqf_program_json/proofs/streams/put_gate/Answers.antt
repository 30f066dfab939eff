use Rattle.std.proofs.Common.{ap}
use Rattle.cqf_output.proofs.WriterLemmas.{Puts-as, Puts-then}
use Rattle.cqf_program_json.specs.Text.{gate_text}
use Rattle.cqf_program_json.proofs.streams.put_gate.Goals as goal

pub returns : goal.returns
returns g c = Puts-as _ _ (ap (gate_text c.args.gate) c.entries-entries.ensures.value) (Puts-then _ _ c.put_filter.ensures
    (Puts-then _ _ c.put_gate_head.ensures
    (Puts-then _ _ c.put_gate_list.ensures
    (Puts-then _ _ c.put.ensures
    c.put_gate_round.ensures))))
