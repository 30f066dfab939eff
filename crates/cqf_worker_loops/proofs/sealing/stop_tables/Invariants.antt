use Rattle.std.proofs.Common.{◌≡◌, [], ◌∷◌, false, length}
use Rattle.cqf_worker_loops.specs.declared.carried.Carried.TheVariants.{Stop}
use Rattle.cqf_worker_loops.proofs.HandedTables.{HandsOn}
use Rattle.cqf_worker_loops.proofs.sealing.stop_tables.Given as goal

-- the workers at the ends before the index were notified
abbrev pub invariant-loop-index : goal.invariant-loop-index
invariant-loop-index g l = HandsOn (Stop ∷ []) l.fn.tables l.tables l.index false × (l.index-end ≡ length l.fn.tables)
