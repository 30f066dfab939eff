use Rattle.cqf_laws_shift.proofs.Taken.{taken_is_covered}
use Rattle.cqf_laws_shift.proofs.edge.taken_is_covered.Goals as goal

pub returns : goal.returns
returns c = taken_is_covered
