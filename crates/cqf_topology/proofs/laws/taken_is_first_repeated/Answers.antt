use Rattle.cqf_topology.proofs.Written.{taken-reported}
use Rattle.cqf_topology.proofs.laws.taken_is_first_repeated.Goals as goal

pub returns : goal.returns
returns c = taken-reported
