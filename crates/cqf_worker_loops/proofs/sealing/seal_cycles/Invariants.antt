use Rattle.std.proofs.Common.{◌≤◌, ◌-◌}
use Rattle.cqf_worker_loops.proofs.SealedCycles.{IsSealing}
use Rattle.cqf_worker_loops.proofs.sealing.seal_cycles.Given as goal

-- all but those that are left are closed
abbrev pub invariant-loop-left : goal.invariant-loop-left
invariant-loop-left g l =
    IsSealing l.fn.conductor.seat l.fn.conductor.tables.items (l.cycles - l.left) l.conductor.seat l.conductor.tables.items l.all × (l.left ≤ l.cycles)

abbrev pub decreases-loop-left : goal.decreases-loop-left
decreases-loop-left g l = l.left
