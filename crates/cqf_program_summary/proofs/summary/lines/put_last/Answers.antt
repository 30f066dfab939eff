use Rattle.std.proofs.Common.{[], ◌∷◌}
use Rattle.cqf_output.proofs.WriterLemmas.{Puts-then}
use Rattle.cqf_report.proofs.LineLemmas.{Puts-field}
use Rattle.cqf_program_plans.specs.Latency.Text.{text_of_deadline}
use Rattle.cqf_program_summary.specs.Summary.Text.{text_of_bound, text_of_least, text_of_mean, text_of_most}
use Rattle.cqf_program_summary.proofs.summary.lines.put_last.Goals as goal

pub returns : goal.returns
returns g c =
    let least = text_of_least c.args.taken in
    let mean = text_of_mean c.args.taken in
    let most = text_of_most c.args.taken in
    let bound = text_of_bound c.args.to.now in
    let deadline = text_of_deadline c.args.deadline in
    Puts-field least mean (most ∷ bound ∷ deadline ∷ []) c.put_least.ensures c.put_byte.ensures
    (Puts-field mean most (bound ∷ deadline ∷ []) c.put_mean.ensures c.put_byte-2.ensures
    (Puts-field most bound (deadline ∷ []) c.put_most.ensures c.put_byte-3.ensures
    (Puts-field bound deadline [] c.put_bound.ensures c.put_byte-4.ensures
    (Puts-then deadline (10 ∷ []) c.put_deadline.ensures c.put_byte-5.ensures))))
