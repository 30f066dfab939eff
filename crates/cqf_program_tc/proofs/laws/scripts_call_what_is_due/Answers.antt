use Rattle.cqf_program_tc.proofs.CallLemmas.{calls_are_due}
use Rattle.cqf_program_tc.proofs.laws.scripts_call_what_is_due.Goals as goal

pub returns : goal.returns
returns c = calls_are_due
