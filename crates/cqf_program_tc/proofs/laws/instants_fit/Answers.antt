use Rattle.cqf_program_tc.proofs.Rounds.{fit}
use Rattle.cqf_program_tc.proofs.laws.instants_fit.Goals as goal

pub returns : goal.returns
returns c = fit
