use Rattle.cqf_access.proofs.Arrivals.{edge_conforms, edge_conforms_by_clocks, grid_is_shifted}
use Rattle.cqf_access.proofs.laws.edge_conforms.Goals as goal

pub returns-clause-conforms : goal.returns-clause-conforms
returns-clause-conforms c = edge_conforms c.access_link_bounds_queueing.ensures.waits

pub returns-clause-clocks : goal.returns-clause-clocks
returns-clause-clocks c = edge_conforms_by_clocks c.access_link_bounds_queueing.ensures.waits

pub returns-clause-grid : goal.returns-clause-grid
returns-clause-grid c = grid_is_shifted c.access_link_bounds_queueing.ensures.waits
