use Rattle.cqf_addressing.proofs.Apart.{indexes_apart}
use Rattle.cqf_addressing.proofs.laws.gate_indexes_are_apart.Goals as goal

pub returns : goal.returns
returns c = indexes_apart
