use Rattle.std.proofs.Common.{◌∙◌, ◌∷◌, ap, decimal}
use Rattle.cqf_report.specs.Written.{line_of_fields}
use Rattle.cqf_output.proofs.WriterLemmas.{Puts-as}
use Rattle.cqf_report.proofs.LineLemmas.{Puts-field}
use Rattle.cqf_program_summary.specs.Summary.{Fare}
use Rattle.cqf_program_summary.specs.Summary.Text.{count_fields, last_fields, text_of_listener}
use Rattle.cqf_program_summary.proofs.summary.lines.put_path.Goals as goal

pub returns : goal.returns
returns g c =
    let fare = c.args.fares.now in
    let path = c.args.path.now in
    let t = path.tally in
    let named = Puts-as c.as_bytes.result.now fare.name (c.as_bytes.ensures.value ∙ ap (λ (f : Fare). f.name) c.fares.view_is) c.put.ensures in
    let counts = Puts-as _ (line_of_fields (count_fields path.to fare.offered fare.dropped t fare.deadline))
    (ap (λ (f : Fare). line_of_fields (count_fields path.to f.offered f.dropped t f.deadline)) c.fares.view_is) c.put_counts.ensures in
    Puts-field fare.name (text_of_listener path.to) (count_fields path.to fare.offered fare.dropped t fare.deadline) named c.put_byte.ensures
    (Puts-field (text_of_listener path.to) (decimal fare.offered)
    (decimal t.delivered ∷ decimal t.late ∷ decimal fare.dropped ∷ decimal t.under_way ∷ last_fields path.to t.taken fare.deadline)
    c.put_listener.ensures c.put_byte-2.ensures counts)
