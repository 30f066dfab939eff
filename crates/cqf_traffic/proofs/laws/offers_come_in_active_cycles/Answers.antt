use Rattle.cqf_traffic.proofs.Keeping.{offers_come_in_active_cycles}
use Rattle.cqf_traffic.proofs.laws.offers_come_in_active_cycles.Goals as goal

pub returns : goal.returns
returns c = offers_come_in_active_cycles
