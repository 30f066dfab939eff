use Rattle.cqf_worker_loops.specs.Stepping.{GoesFurther}
use Rattle.cqf_worker_loops.proofs.rounds.look_for_tables.Given as goal

-- it has gone on, for all traffic for which it was under way
abbrev pub invariant-loop-table : goal.invariant-loop-table
invariant-loop-table g l = GoesFurther l.fn.worker l.worker
