use Rattle.cqf_program_laws.proofs.PlanTexts.{written_plans_run}
use Rattle.cqf_program_laws.proofs.written_plans_run.Goals as goal

pub returns : goal.returns
returns c = written_plans_run c.written_plans_read_back.ensures
