use Rattle.std.proofs.Common.{◌≡◌, ◌++◌, List, length}
use Rattle.std.specs.Vec.Iter.{into_iter_items}
use Rattle.cqf_admission.specs.Tables.{CycleTable}
use Rattle.cqf_worker_loops.specs.declared.carried.Carried.{Carried}
use Rattle.cqf_worker.specs.Closing.{AreGivenBy}
use Rattle.cqf_worker_loops.specs.PipeEnds.{End}
use Rattle.cqf_worker.proofs.closing.close_tables.Given as goal

-- the pipes so far are closed, each with the end at its index
abbrev pub invariant-loop-putting : goal.invariant-loop-putting
invariant-loop-putting l =
    (l.yielded ++ into_iter_items l.putting-iterator ≡ l.fn.ins.items)
    × ((takes : List (End (Carried CycleTable))) × (l.fn.outs.items ≡ takes ++ into_iter_items l.others) × (length takes ≡ length l.yielded)
    × AreGivenBy l.yielded takes)
