use Rattle.std.proofs.Common.{◌∙◌, ap, rules}
use Rattle.cqf_output.proofs.WriterLemmas.{text-written}
use Rattle.cqf_gates.specs.StreamText.{text_of_stream_entries}
use Rattle.cqf_gates.proofs.stream_text.write_stream.Goals as goal

pub returns : goal.returns
returns c =
    let names = c.close-written.ensures.same ∙ c.put_stream.ensures.same ∙ c.new-writer.ensures.same in
    text-written c.close-written.result.now (text_of_stream_entries c.args.list.now) c.written_text.result
    (ap (λ list. list.items) c.new-reported.ensures.writer ∙ c.new.ensures.items)
    c.new-writer.ensures.opens c.put_stream.ensures c.close-written.ensures.closes c.written_text.ensures.ok (search rules) (search rules)
