use Rattle.std.proofs.Common.{◌∙◌}
use Rattle.std.specs.Fmt.{decimal}
use Rattle.cqf_program_runs.proofs.Lines.{unfinished_written}
use Rattle.cqf_program_runs.proofs.check.checked.some_come_line.Goals as goal

pub returns : goal.returns
returns c = c.in_ok-line.ensures.ok ∙ unfinished_written (decimal c.args.counts.under_way) (decimal c.args.counts.offers.later)
