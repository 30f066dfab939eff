use Rattle.cqf_program_runs.proofs.ByBook.{deliveries_judged}
use Rattle.cqf_program_runs.proofs.laws.verdicts_give_deliveries.Goals as goal

pub returns : goal.returns
returns c run streams book due verdict says same_due decided = deliveries_judged run streams book says due same_due verdict decided
