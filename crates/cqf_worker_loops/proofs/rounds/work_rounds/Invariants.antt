use Rattle.cqf_worker_loops.specs.Stepping.{GoesFurther}
use Rattle.cqf_worker_loops.proofs.rounds.work_rounds.Given as goal

-- it has gone on, for all traffic for which it was under way
abbrev pub invariant-loop-round : goal.invariant-loop-round
invariant-loop-round g l = GoesFurther l.fn.worker l.worker
