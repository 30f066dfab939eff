use Rattle.std.proofs.Common.{take}
use Rattle.cqf_port.specs.Progress.{IsKeptByAll}
use Rattle.cqf_port.proofs.port.taken_in_turn.Given as goal

abbrev pub invariant-loop-index : goal.invariant-loop-index
invariant-loop-index l = IsKeptByAll (take l.index l.fn.arrivals) l.progress l.newest
