use Rattle.std.proofs.Common.{◌≡◌, length, map}
use Rattle.cqf_worker_loops.specs.declared.carried.Carried.TheVariants.{Item}
use Rattle.cqf_worker_loops.specs.Handing.{tables_handed}
use Rattle.cqf_worker_loops.proofs.HandedTables.{HandsOn, MissesFirst}
use Rattle.cqf_worker_loops.proofs.sealing.hand_on.Given as goal

-- the ends before the index were given the tables
abbrev pub invariant-loop-index : goal.invariant-loop-index
invariant-loop-index g l =
    HandsOn (map Item (tables_handed l.fn.block)) l.fn.tables l.tables l.index l.all × (l.index-end ≡ length l.fn.tables)
    × MissesFirst l.fn.tables l.tables l.index l.all
