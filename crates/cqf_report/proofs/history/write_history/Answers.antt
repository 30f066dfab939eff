use Rattle.std.proofs.Common.{◌∙◌, ap, map, rules}
use Rattle.cqf_admission.specs.Admission.{recorded_of}
use Rattle.cqf_output.proofs.WriterLemmas.{text-written}
use Rattle.cqf_report.specs.HistoryText.{history_text}
use Rattle.cqf_report.proofs.history.write_history.Goals as goal

pub returns : goal.returns
returns c =
    let names = c.close-written.ensures.same ∙ c.put_history.ensures.same ∙ c.new-writer.ensures.same in
    text-written c.close-written.result.now (history_text (map recorded_of c.args.entries.now)) c.written_text.result
    (ap (λ list. list.items) c.new-reported.ensures.writer ∙ c.new.ensures.items)
    c.new-writer.ensures.opens c.put_history.ensures c.close-written.ensures.closes c.written_text.ensures.ok (search rules) (search rules)
