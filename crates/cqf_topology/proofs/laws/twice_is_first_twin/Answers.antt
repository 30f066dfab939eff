use Rattle.cqf_topology.proofs.Written.{twice-reported}
use Rattle.cqf_topology.proofs.laws.twice_is_first_twin.Goals as goal

pub returns : goal.returns
returns c = twice-reported
