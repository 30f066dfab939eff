use Rattle.cqf_laws_cycle.proofs.Steps.{lost_in_cycle, lost_in_run, run_is_cycles}
use Rattle.cqf_laws_cycle.proofs.runs.run_is_its_cycles.Goals as goal

pub returns-clause-cycles : goal.returns-clause-cycles
returns-clause-cycles c = run_is_cycles

pub returns-clause-losses : goal.returns-clause-losses
returns-clause-losses c run carried cycles bridge policed = (
  lost_in_cycle run carried cycles bridge policed,
  lost_in_run run carried cycles bridge policed,
)
