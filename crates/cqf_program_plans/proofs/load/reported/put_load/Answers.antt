use Rattle.std.proofs.Common.{length}
use Rattle.cqf_output.proofs.WriterLemmas.{Puts-then}
use Rattle.cqf_report.specs.Written.{line_of_fields}
use Rattle.cqf_program_plans.specs.Load.Text.{lines_of_links, load_header}
use Rattle.cqf_program_plans.proofs.load.reported.put_load.Goals as goal

pub returns : goal.returns
returns g c =
    let d = c.args.domain.now in
    Puts-then (line_of_fields load_header) (lines_of_links d c.args.listing.now (length d.links)) c.put_header.ensures c.put_lines.ensures
