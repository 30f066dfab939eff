use Rattle.cqf_program_planning.proofs.WrittenPlans.{written_plans_read_back}
use Rattle.cqf_program_planning.proofs.laws.written_plans_read_back.Goals as goal

pub returns : goal.returns
returns c = written_plans_read_back c.filled_networks_read_back.ensures c.state_follows_history.ensures.counted
