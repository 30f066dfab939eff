use Rattle.std.specs.Prelude.{◌++◌, List, take}
use Rattle.cqf_bridge.specs.PortRecord.{PortRecord}
use Rattle.cqf_plain.specs.Due.{AreNextStarts}
use Rattle.cqf_plain.proofs.due.note_starts.Given as goal

-- the next starts of the first ports are recorded
abbrev pub invariant-loop-index : goal.invariant-loop-index
invariant-loop-index l = (ports : List PortRecord) → AreNextStarts l.fn.due.entries ports → AreNextStarts l.due.entries (ports ++ take l.index l.bridge.ports)
