use Rattle.cqf_worker_loops.specs.Stepping.{GoesFurther}
use Rattle.cqf_worker_loops.proofs.rounds.look_for_segments.Given as goal

-- it has gone on, for all traffic for which it was under way
abbrev pub invariant-loop-segment : goal.invariant-loop-segment
invariant-loop-segment g l = GoesFurther l.fn.worker l.worker
