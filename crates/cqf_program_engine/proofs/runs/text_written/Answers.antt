use Rattle.std.proofs.Common.{◌∙◌, ap, rules}
use Rattle.cqf_program_engine.proofs.WrittenLemmas.{text-reported}
use Rattle.cqf_program_engine.specs.Prepared.{IsTextOf}
use Rattle.cqf_program_engine.proofs.runs.text_written.Goals as goal

pub returns : goal.returns
returns c =
    text-reported c.new-reported.result c.write.new.reported (IsTextOf c.args.output) c.written_text.result
    (ap (λ list. list.items) c.new-reported.ensures.writer ∙ c.new.ensures.items) c.write.ensures c.written_text.ensures.ok (search rules) (search rules)
