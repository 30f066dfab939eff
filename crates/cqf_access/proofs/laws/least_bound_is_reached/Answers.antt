use Rattle.cqf_access.proofs.AtOnce.{least_bound_is_reached}
use Rattle.cqf_access.proofs.laws.least_bound_is_reached.Goals as goal

pub returns : goal.returns
returns c = least_bound_is_reached
