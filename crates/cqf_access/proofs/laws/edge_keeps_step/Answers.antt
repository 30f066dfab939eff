use Rattle.cqf_access.proofs.Steps.{edge_comes_in_active_cycles, edge_keeps_step}
use Rattle.cqf_access.proofs.laws.edge_keeps_step.Goals as goal

pub returns-clause-step : goal.returns-clause-step
returns-clause-step c = edge_keeps_step c.access_link_bounds_queueing.ensures.waits

pub returns-clause-active_cycles : goal.returns-clause-active_cycles
returns-clause-active_cycles c = edge_comes_in_active_cycles c.access_link_bounds_queueing.ensures.waits
