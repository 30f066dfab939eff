use Rattle.std.proofs.Common.{◌∙◌, sym}
use Rattle.std.specs.Fmt.{decimal}
use Rattle.cqf_program_plans.specs.Latency.Text.{verdict_on_deadline}
use Rattle.cqf_program_plans.proofs.LatencyLines.{written_line}
use Rattle.cqf_program_plans.proofs.latency.command.line_of_latency.Goals as goal

pub returns : goal.returns
returns c =
    let l = c.args.latency.now in
    let given = c.in-Some-Some in
    c.in_ok-line.ensures.ok
    ∙ written_line l.stream l.listener (decimal l.most) c.name-verdict.result.now given.verdict given.deadline (verdict_on_deadline l) l.deadline
    c.name-verdict.ensures (sym c.verdict.ensures ∙ given.is-0) given.is-1
