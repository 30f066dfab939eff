use Rattle.std.proofs.Common.{decimal, [], ◌∷◌, ◌∙◌, ap}
use Rattle.cqf_output.proofs.WriterLemmas.{Puts-as}
use Rattle.cqf_report.proofs.LineLemmas.{Puts-field}
use Rattle.cqf_report.specs.Written.{line_of_fields}
use Rattle.cqf_program_runs.specs.Deliveries.{fate_of}
use Rattle.cqf_program_runs.specs.Deliveries.Text.{passage_fields, name_of_fate}
use Rattle.cqf_program_runs.proofs.PassageLines.{Puts-passage}
use Rattle.cqf_program_runs.proofs.deliveries.lines.put_delivery.Goals as goal

pub returns : goal.returns
returns g c =
    let x = c.args.delivery.now in
    let name = name_of_fate (fate_of x) in
    let rest = passage_fields x.at.0 x.passage (name ∷ []) in
    let stream = Puts-as c.as_bytes.result.now x.stream c.as_bytes.ensures.value c.put.ensures in
    let passage = Puts-as (line_of_fields (passage_fields x.at.0 x.passage (c.as_bytes-2.result.now ∷ []))) (line_of_fields rest)
    (ap (λ last. line_of_fields (passage_fields x.at.0 x.passage (last ∷ []))) (c.as_bytes-2.ensures.value ∙ c.name-last.ensures
    ∙ ap name_of_fate c.fate.ensures))
    c.put_passage.ensures in
    Puts-field (decimal x.frame) x.stream (decimal x.octets ∷ decimal x.at.0 ∷ rest) c.put_number.ensures c.put_byte.ensures
    (Puts-field x.stream (decimal x.octets) (decimal x.at.0 ∷ rest) stream c.put_byte-2.ensures
    (Puts-field (decimal x.octets) (decimal x.at.0) rest c.put_number-2.ensures c.put_byte-3.ensures
    (Puts-passage (decimal x.at.0) x.at.0 x.passage (name ∷ []) c.put_number-3.ensures c.put_byte-4.ensures passage)))
