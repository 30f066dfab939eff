use Rattle.cqf_program_tc.proofs.Apart.{are_apart}
use Rattle.cqf_program_tc.proofs.laws.variables_are_apart.Goals as goal

pub returns : goal.returns
returns c = are_apart
