use Rattle.std.proofs.Common.{◌∙◌, inr}
use Rattle.cqf_report.proofs.ActiveCycles.{opened}
use Rattle.cqf_report.proofs.tables.open_table.Goals as goal

pub returns-clause-ready : goal.returns-clause-ready
returns-clause-ready g c =
    let set = c.from_reader.ensures in
    let builder = c.has_headers.ensures in
    inr (inr (rw builder at set.has_headers, set.headers))

pub returns-clause-gives : goal.returns-clause-gives
returns-clause-gives g c bytes is =
    let set = c.from_reader.ensures in
    let start = c.new.ensures in
    let builder = c.has_headers.ensures in
    opened g.R.Read.remaining c.from_reader.result c.args.text bytes
    (rw builder at set.config ∙ start.config) (rw builder at set.has_headers) set.headers (rw builder at set.flexible ∙ start.flexible)
    (rw builder at set.trim ∙ start.trim) set.expected set.state set.source is
