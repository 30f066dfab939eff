use Rattle.cqf_traffic.proofs.Keeping.{offers_conform}
use Rattle.cqf_traffic.proofs.laws.offers_conform.Goals as goal

pub returns : goal.returns
returns c = offers_conform c.conforming_offers_fit_a_cycle.ensures.blocks c.conforming_offers_fit_a_cycle.ensures.skips
