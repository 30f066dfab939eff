use Rattle.cqf_program_runs.proofs.Once.{is_written_once, written_to_one}
use Rattle.cqf_program_runs.proofs.laws.each_is_written_once.Goals as goal

pub returns-clause-once : goal.returns-clause-once
returns-clause-once c run streams book x says inside within = is_written_once run streams book x inside says within

pub returns-clause-listeners : goal.returns-clause-listeners
returns-clause-listeners c run streams book x row hop domain orderly says inside within covered among =
    written_to_one run streams book x inside domain orderly says within row covered hop among
