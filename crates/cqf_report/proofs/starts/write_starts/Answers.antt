use Rattle.std.proofs.Common.{◌∙◌, ap, rules}
use Rattle.cqf_output.proofs.WriterLemmas.{Puts-then, text-written}
use Rattle.cqf_units.specs.Timing.{ticks_of_octet}
use Rattle.cqf_report.specs.Starts.{lines_of_port, start_header, text_of_starts}
use Rattle.cqf_report.specs.Written.{line_of_fields}
use Rattle.cqf_report.proofs.starts.write_starts.Goals as goal

pub returns : goal.returns
returns c =
    let octet_time = ticks_of_octet c.args.rate in
    let names = c.close-written.ensures.same ∙ c.put_each.ensures.same ∙ c.put_port_header.ensures.same ∙ c.new-writer.ensures.same in
    let puts = Puts-then (line_of_fields start_header) (lines_of_port octet_time c.args.starts.now) c.put_port_header.ensures c.put_each.ensures in
    text-written c.close-written.result.now (text_of_starts octet_time c.args.starts.now) c.written_text.result
    (ap (λ list. list.items) c.new-reported.ensures.writer ∙ c.new.ensures.items)
    c.new-writer.ensures.opens puts c.close-written.ensures.closes c.written_text.ensures.ok (search rules) (search rules)
