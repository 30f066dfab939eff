use Rattle.std.proofs.Common.{◌∙◌}
use Rattle.std.proofs.lemmas.Result.{IfOk-weaker}
use Rattle.cqf_program_plans.proofs.LatencyFromTalker.{none_after}
use Rattle.cqf_program_plans.proofs.latency.listeners.latencies_of_rows.Goals as goal

pub returns : goal.returns
returns c =
    IfOk-weaker c.latencies_from_talkers.result _ _ (λ latencies is. is ∙ none_after c.args.domain.now c.args.rows.now c.args.deadlines.now)
    c.latencies_from_talkers.ensures
