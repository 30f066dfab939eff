use Rattle.cqf_access.proofs.Closer.{edge_conforms_closer, edge_conforms_closer_by_clocks}
use Rattle.cqf_access.proofs.laws.edge_conforms_closer.Goals as goal

pub returns-clause-conforms : goal.returns-clause-conforms
returns-clause-conforms c = edge_conforms_closer c.conforming_offers_fit_a_cycle.ensures.skips c.access_link_bounds_queueing.ensures.waits

pub returns-clause-clocks : goal.returns-clause-clocks
returns-clause-clocks c = edge_conforms_closer_by_clocks c.conforming_offers_fit_a_cycle.ensures.skips c.access_link_bounds_queueing.ensures.waits
