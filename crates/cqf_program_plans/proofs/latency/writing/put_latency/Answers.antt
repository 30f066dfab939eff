use Rattle.std.proofs.Common.{decimal, [], ◌∷◌, ap}
use Rattle.cqf_output.proofs.WriterLemmas.{Puts-as, Puts-then}
use Rattle.cqf_report.proofs.LineLemmas.{Puts-field}
use Rattle.cqf_program_plans.specs.Latency.Text.{text_of_deadline, text_of_verdict, verdict_on_deadline}
use Rattle.cqf_program_plans.proofs.latency.writing.put_latency.Goals as goal

pub returns : goal.returns
returns g c =
    let l = c.args.latency.now in
    let deadline = text_of_deadline l.deadline in
    let verdict = text_of_verdict (verdict_on_deadline l) in
    let stream = Puts-as c.as_bytes.result.now l.stream c.as_bytes.ensures.value c.put.ensures in
    let listener = Puts-as c.as_bytes-2.result.now l.listener c.as_bytes-2.ensures.value c.put-2.ensures in
    let last = Puts-as (text_of_verdict c.verdict.result) verdict (ap text_of_verdict c.verdict.ensures) c.put_verdict.ensures in
    Puts-field l.stream l.listener (decimal l.bridges ∷ decimal l.least ∷ decimal l.most ∷ decimal l.window ∷ deadline ∷ verdict ∷ [])
    stream c.put_byte.ensures
    (Puts-field l.listener (decimal l.bridges) (decimal l.least ∷ decimal l.most ∷ decimal l.window ∷ deadline ∷ verdict ∷ []) listener c.put_byte-2.ensures
    (Puts-field (decimal l.bridges) (decimal l.least) (decimal l.most ∷ decimal l.window ∷ deadline ∷ verdict ∷ []) c.put_number.ensures c.put_byte-3.ensures
    (Puts-field (decimal l.least) (decimal l.most) (decimal l.window ∷ deadline ∷ verdict ∷ []) c.put_number-2.ensures c.put_byte-4.ensures
    (Puts-field (decimal l.most) (decimal l.window) (deadline ∷ verdict ∷ []) c.put_number-3.ensures c.put_byte-5.ensures
    (Puts-field (decimal l.window) deadline (verdict ∷ []) c.put_number-4.ensures c.put_byte-6.ensures
    (Puts-field deadline verdict [] c.put_deadline.ensures c.put_byte-7.ensures
    (Puts-then verdict (10 ∷ []) last c.put_byte-8.ensures)))))))
