use Rattle.cqf_laws_loose.proofs.Background.{slack_changes_no_cycle}
use Rattle.cqf_laws_loose.proofs.slack_changes_no_cycle.Goals as goal

pub returns : goal.returns
returns c = slack_changes_no_cycle c.loose_gates_mean_the_shift.ensures
