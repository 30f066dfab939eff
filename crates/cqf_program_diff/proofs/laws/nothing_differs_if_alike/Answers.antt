use Rattle.cqf_program_diff.proofs.Alike.{all_is_alike, nothing_differs}
use Rattle.cqf_program_diff.proofs.laws.nothing_differs_if_alike.Goals as goal

pub returns-clause-alike : goal.returns-clause-alike
returns-clause-alike c = nothing_differs

pub returns-clause-same : goal.returns-clause-same
returns-clause-same c = all_is_alike
