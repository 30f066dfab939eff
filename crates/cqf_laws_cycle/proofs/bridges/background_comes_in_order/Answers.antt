use Rattle.cqf_laws_cycle.proofs.Gathering.{background_in_order, ports_background}
use Rattle.cqf_laws_cycle.proofs.bridges.background_comes_in_order.Goals as goal

pub returns-clause-sorted : goal.returns-clause-sorted
returns-clause-sorted c = background_in_order

pub returns-clause-ports : goal.returns-clause-ports
returns-clause-ports c = ports_background
