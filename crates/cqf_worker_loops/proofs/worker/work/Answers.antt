use Rattle.cqf_worker_loops.proofs.Through.{ends_work, some_begins}
use Rattle.cqf_worker_loops.proofs.worker.work.Goals as goal

-- a worker that has done nothing is under way
pub work_rounds-requires-after_bounds : goal.work_rounds-requires-after_bounds
work_rounds-requires-after_bounds g c κs within =
    some_begins c.args.worker.relay.cycles c.args.worker c.requires.few c.requires.new

-- and in the end it has gone through all cycles
pub returns-in-Ok-clause-ok : goal.returns-in-Ok-clause-ok
returns-in-Ok-clause-ok g c = ends_work c.args.worker c.work_rounds.new.worker c.requires.few c.in-Ok.ensures.ok
