use Rattle.std.proofs.Common.{◌∙◌}
use Rattle.std.specs.Fmt.{decimal}
use Rattle.cqf_program_runs.proofs.Lines.{well_written}
use Rattle.cqf_program_runs.proofs.check.checked.well_line.Goals as goal

pub returns : goal.returns
returns c =
    c.in_ok-line.ensures.ok ∙ well_written (decimal c.args.counts.offers.frames) (decimal c.args.counts.delivered) (decimal c.args.counts.timed)
