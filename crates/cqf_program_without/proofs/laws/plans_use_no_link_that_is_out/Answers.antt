use Rattle.cqf_program_without.proofs.KeptOff.{plans_use_no_link_out}
use Rattle.cqf_program_without.proofs.laws.plans_use_no_link_that_is_out.Goals as goal

pub returns : goal.returns
returns c = plans_use_no_link_out c.written_plan_is_admitted.ensures
