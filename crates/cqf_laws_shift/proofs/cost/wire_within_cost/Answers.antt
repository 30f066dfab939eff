use Rattle.cqf_laws_shift.proofs.Costs.{wire_within_cost}
use Rattle.cqf_laws_shift.proofs.cost.wire_within_cost.Goals as goal

pub returns : goal.returns
returns c = wire_within_cost
