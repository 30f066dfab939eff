use Rattle.std.proofs.Common.{[], ◌∷◌}
use Rattle.cqf_output.proofs.WriterLemmas.{Puts-as, Puts-then}
use Rattle.cqf_report.proofs.LineLemmas.{Puts-field}
use Rattle.cqf_program_plans.specs.Latency.Text.{text_of_deadline}
use Rattle.cqf_program_runs.specs.Deliveries.Text.{text_of_instant, text_of_listeners_latency}
use Rattle.cqf_program_runs.proofs.deliveries.lines.put_journey.Goals as goal

pub returns : goal.returns
returns g c =
    let j = c.args.journey.now in
    let last = c.args.last.now in
    let instant = text_of_instant j.whole in
    let latency = text_of_listeners_latency c.args.at.0 j.whole in
    let deadline = text_of_deadline j.deadline in
    let listener = Puts-as c.as_bytes.result.now j.listener c.as_bytes.ensures.value c.put.ensures in
    Puts-field j.listener instant (latency ∷ deadline ∷ last ∷ []) listener c.put_byte.ensures
    (Puts-field instant latency (deadline ∷ last ∷ []) c.put_instant.ensures c.put_byte-2.ensures
    (Puts-field latency deadline (last ∷ []) c.put_latency.ensures c.put_byte-3.ensures
    (Puts-field deadline last [] c.put_deadline.ensures c.put_byte-4.ensures
    (Puts-then last (10 ∷ []) c.put-2.ensures c.put_byte-5.ensures))))
