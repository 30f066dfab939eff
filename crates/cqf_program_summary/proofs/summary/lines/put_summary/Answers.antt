use Rattle.std.proofs.Common.{ap}
use Rattle.cqf_output.proofs.WriterLemmas.{Puts-as, Puts-then}
use Rattle.cqf_report.specs.Written.{line_of_fields}
use Rattle.cqf_program_summary.specs.Summary.Text.{lines_of_fares, lines_of_others, summary_header}
use Rattle.cqf_program_summary.proofs.summary.lines.put_summary.Goals as goal

pub returns : goal.returns
returns g c =
    let sums = c.args.sums.now in
    let fares = Puts-as _ (lines_of_fares sums.fares) (ap lines_of_fares c.fares.ensures) c.put_fares.ensures in
    let others = Puts-as _ (lines_of_others sums.others) (ap lines_of_others c.others.ensures) c.put_others.ensures in
    Puts-then (line_of_fields summary_header) _ c.put_header.ensures (Puts-then (lines_of_fares sums.fares) (lines_of_others sums.others) fares others)
