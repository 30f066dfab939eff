use Rattle.std.proofs.Common.{rules}
use Rattle.cqf_worker_loops.proofs.PipeSteps.{begins, forks}
use Rattle.cqf_worker_loops.proofs.pipe_ends.pipe_with.Goals as goal

-- the rule holds of a pipe in which nothing was put
pub bounded_with-requires-clause-rule : goal.bounded_with-requires-clause-rule
bounded_with-requires-clause-rule g c = begins

-- and after its pass is split in two
pub another-other-requires-clause-rule : goal.another-other-requires-clause-rule
another-other-requires-clause-rule g c = forks _ _ (search rules) (search rules)
