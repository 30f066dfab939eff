use Rattle.std.proofs.Common.{[], ◌∷◌, decimal}
use Rattle.cqf_report.proofs.LineLemmas.{Puts-field}
use Rattle.cqf_program_plans.specs.Latency.Text.{text_of_deadline}
use Rattle.cqf_program_summary.specs.Summary.Text.{text_of_bound, text_of_least, text_of_mean, text_of_most}
use Rattle.cqf_program_summary.proofs.summary.lines.put_counts.Goals as goal

pub returns : goal.returns
returns g c =
    let t = c.args.tally in
    let least = text_of_least t.taken in
    let following = text_of_mean t.taken ∷ text_of_most t.taken ∷ text_of_bound c.args.to.now ∷ text_of_deadline c.args.deadline ∷ [] in
    let offered = decimal c.args.offered in
    let dropped = decimal c.args.dropped in
    Puts-field offered (decimal t.delivered) (decimal t.late ∷ dropped ∷ decimal t.under_way ∷ least ∷ following) c.put_number.ensures c.put_byte.ensures
    (Puts-field (decimal t.delivered) (decimal t.late) (dropped ∷ decimal t.under_way ∷ least ∷ following) c.put_number-2.ensures c.put_byte-2.ensures
    (Puts-field (decimal t.late) dropped (decimal t.under_way ∷ least ∷ following) c.put_number-3.ensures c.put_byte-3.ensures
    (Puts-field dropped (decimal t.under_way) (least ∷ following) c.put_number-4.ensures c.put_byte-4.ensures
    (Puts-field (decimal t.under_way) least following c.put_number-5.ensures c.put_byte-5.ensures c.put_last.ensures))))
