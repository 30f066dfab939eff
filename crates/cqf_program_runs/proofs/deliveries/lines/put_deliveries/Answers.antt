use Rattle.cqf_output.proofs.WriterLemmas.{Puts-then}
use Rattle.cqf_report.specs.Written.{line_of_fields}
use Rattle.cqf_program_runs.specs.Deliveries.Text.{deliveries_header, lines_of_deliveries}
use Rattle.cqf_program_runs.specs.Deliveries.Ending.{deliveries_over, over_of}
use Rattle.cqf_program_runs.proofs.deliveries.lines.put_deliveries.Goals as goal

pub returns : goal.returns
returns g c = λ whole followed.
    Puts-then (line_of_fields deliveries_header) (lines_of_deliveries (deliveries_over (over_of c.args.ended.now whole))) c.put_header.ensures
    (c.put_all.ensures whole followed)
