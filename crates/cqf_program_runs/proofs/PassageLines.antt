-- The line of a delivery's last fields, after a field.
use Rattle.std.proofs.Common.{◌∷◌, [], ℕ, List, Option}
use Rattle.std.specs.declared.io.traits.Write as write
use Rattle.cqf_output.specs.Writer.{Puts}
use Rattle.cqf_output.specs.declared.writer.Writer.{Writer}
use Rattle.cqf_output.specs.declared.sinks.Sink as sink
use Rattle.cqf_report.proofs.LineLemmas.{Puts-field}
use Rattle.cqf_report.specs.Records.{Fields}
use Rattle.cqf_report.specs.Written.{line_of_fields}
use Rattle.cqf_program_plans.specs.Latency.Text.{text_of_deadline}
use Rattle.cqf_program_runs.specs.declared.deliveries.delivery.Passage.{Passage}
use Rattle.cqf_program_runs.specs.declared.deliveries.delivery.Passage.TheVariants.{Dropped, Goes}
use Rattle.cqf_program_runs.specs.Deliveries.Text.{passage_fields, text_of_instant, text_of_listeners_latency}

-- a field, a comma, and the fields of a passage
pub Puts-passage : {W : Type 0} {s : sink.Ghosts W} {w : write.Ghosts W} {contents : W → Option (List ℕ)}
    {old mid after new : Writer W s w} (field : List ℕ) (at : ℕ) (passage : Passage) (fields : Fields)
    → Puts contents old mid field → Puts contents mid after (44 ∷ []) → Puts contents after new (line_of_fields (passage_fields at passage fields))
    → Puts contents old new (line_of_fields (field ∷ passage_fields at passage fields))
Puts-passage field at (Dropped reason) fields one comma rest = Puts-field field [] ([] ∷ [] ∷ [] ∷ fields) one comma rest
Puts-passage field at (Goes journey) fields one comma rest =
    Puts-field field journey.listener (text_of_instant journey.whole ∷ text_of_listeners_latency at journey.whole
    ∷ text_of_deadline journey.deadline ∷ fields) one comma rest
