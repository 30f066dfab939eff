use Rattle.cqf_program_runs.proofs.Arrived.{are_the_shift}
use Rattle.cqf_program_runs.proofs.laws.arrivals_are_the_shift.Goals as goal

pub returns : goal.returns
returns c run streams book says = are_the_shift run streams book says
