use Rattle.cqf_units.proofs.Times.{budget_small}
use Rattle.cqf_units.proofs.reservations.budget_octets.Goals as goal

pub returns-clause-range : goal.returns-clause-range
returns-clause-range c = budget_small _ c.shortest-shortest.result c.shortest-shortest.ensures.some
