use Rattle.std.specs.Prelude.{take}
use Rattle.cqf_plain.specs.Due.{AreNextStarts, ports_of}
use Rattle.cqf_plain.proofs.due.next_starts.Given as goal

-- the next starts of the first bridges' ports are recorded
abbrev pub invariant-loop-index : goal.invariant-loop-index
invariant-loop-index l = AreNextStarts l.due.entries (ports_of (take l.index l.bridges))
