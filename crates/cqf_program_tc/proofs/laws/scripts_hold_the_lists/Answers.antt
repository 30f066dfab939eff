use Rattle.cqf_program_tc.proofs.WordLemmas.{lists_held}
use Rattle.cqf_program_tc.proofs.laws.scripts_hold_the_lists.Goals as goal

pub returns : goal.returns
returns c = lists_held
