use Rattle.std.proofs.Common.{◌≡◌, length}
use Rattle.cqf_worker_loops.specs.declared.carried.Carried.TheVariants.{Stop}
use Rattle.cqf_worker_loops.proofs.Each.{AreGiven}
use Rattle.cqf_worker_loops.proofs.rows.stop_each.Given as goal

-- a Stop was put at each of the ports below the index, or nothing
abbrev pub invariant-loop-index : goal.invariant-loop-index
invariant-loop-index g l = AreGiven Stop l.fn.ports l.ports l.index × (l.index-end ≡ length l.fn.ports)
