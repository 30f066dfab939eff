use Rattle.cqf_access.proofs.Arrivals.{frames_are_whole_within}
use Rattle.cqf_access.proofs.Queueing.{access_link_bounds_queueing}
use Rattle.cqf_access.proofs.laws.access_link_bounds_queueing.Goals as goal

pub returns-clause-waits : goal.returns-clause-waits
returns-clause-waits c = access_link_bounds_queueing c.conforming_offers_fit_a_cycle.ensures.skips

pub returns-clause-whole : goal.returns-clause-whole
returns-clause-whole c = frames_are_whole_within (access_link_bounds_queueing c.conforming_offers_fit_a_cycle.ensures.skips)
