use Rattle.std.proofs.Common.{ap, sym, add-one}
use Rattle.cqf_output.proofs.WriterLemmas.{Puts-as, Puts-then}
use Rattle.cqf_report.specs.Written.{line_of_fields}
use Rattle.cqf_program_plans.specs.Load.Text.{lines_of_links, load_fields}
use Rattle.cqf_program_plans.proofs.load.reported.put_lines.Goals as goal

pub loop-link-preserved : goal.loop-link-preserved
loop-link-preserved g c =
    let d = c.args.domain.now in
    let rows = c.args.listing.now in
    let link = c.loop-link.link in
    Puts-as _ _ (sym (ap (lines_of_links d rows) (add-one link)))
    (Puts-then (lines_of_links d rows link) (line_of_fields (load_fields d rows link)) c.loop-link.invariant c.put_line.ensures)
