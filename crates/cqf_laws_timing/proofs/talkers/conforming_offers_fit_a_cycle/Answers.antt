use Rattle.cqf_laws_timing.proofs.Fits.{blocks_conform, conforming_offers_fit_a_cycle, needed_is_reached, skipping_conforms}
use Rattle.cqf_laws_timing.proofs.talkers.conforming_offers_fit_a_cycle.Goals as goal

pub returns-clause-fits : goal.returns-clause-fits
returns-clause-fits c = conforming_offers_fit_a_cycle

pub returns-clause-skips : goal.returns-clause-skips
returns-clause-skips c = skipping_conforms

pub returns-clause-blocks : goal.returns-clause-blocks
returns-clause-blocks c = blocks_conform

pub returns-clause-reached : goal.returns-clause-reached
returns-clause-reached c = needed_is_reached
