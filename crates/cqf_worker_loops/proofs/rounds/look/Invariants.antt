use Rattle.std.proofs.Common.{◌≡◌, length}
use Rattle.cqf_worker_loops.specs.Stepping.{GoesFurther}
use Rattle.cqf_worker_loops.proofs.rounds.look.Given as goal

-- it has gone on, for all traffic for which it was under way, with the same number of inlets
abbrev pub invariant-loop-index : goal.invariant-loop-index
invariant-loop-index g l = GoesFurther l.fn.worker l.worker × (l.index-end ≡ length l.worker.ins.items)
