use Rattle.std.proofs.Common.{◌∙◌}
use Rattle.std.specs.Fmt.{decimal}
use Rattle.cqf_program_runs.proofs.Lines.{none_come_written}
use Rattle.cqf_program_runs.proofs.check.checked.none_come_line.Goals as goal

pub returns : goal.returns
returns c = c.in_ok-line.ensures.ok ∙ none_come_written (decimal c.args.counts.offers.enough)
