use Rattle.cqf_program_planning.proofs.WrittenPlans.{plans_plan_themselves}
use Rattle.cqf_program_planning.proofs.laws.plans_plan_themselves.Goals as goal

pub returns : goal.returns
returns c = plans_plan_themselves c.filled_networks_read_back.ensures c.state_follows_history.ensures.counted
