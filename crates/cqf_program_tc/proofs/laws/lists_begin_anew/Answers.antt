use Rattle.cqf_program_tc.proofs.Rounds.{begin_anew}
use Rattle.cqf_program_tc.proofs.laws.lists_begin_anew.Goals as goal

pub returns : goal.returns
returns c = begin_anew
