use Rattle.cqf_program_planning.proofs.SoundPlans.{written_plan_is_admitted}
use Rattle.cqf_program_planning.proofs.laws.written_plan_is_admitted.Goals as goal

pub returns : goal.returns
returns c = written_plan_is_admitted c.state_follows_history.ensures.counted
