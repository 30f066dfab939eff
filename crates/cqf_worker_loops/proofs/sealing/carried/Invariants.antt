use Rattle.std.proofs.Common.{◌≡◌, map, take}
use Rattle.cqf_worker_loops.specs.declared.carried.Carried.TheVariants.{Item}
use Rattle.cqf_worker_loops.proofs.sealing.carried.Given as goal

-- the copies are of the tables below the index
abbrev pub invariant-loop-table : goal.invariant-loop-table
invariant-loop-table l = l.copies.items ≡ map Item (take l.table-index l.tables)
