use Rattle.std.proofs.Common.{◌-◌}
use Rattle.cqf_port.proofs.late.was_open.Given as goal
use Rattle.cqf_port.proofs.Staying.{WasClosed}

-- the class was closed at each instant examined so far
abbrev pub invariant-loop-t : goal.invariant-loop-t
invariant-loop-t l = WasClosed l.schedule l.class l.fn.first.0 l.t

-- what is left up to the end
abbrev pub decreases-loop-t : goal.decreases-loop-t
decreases-loop-t l = l.end - l.t
