use Rattle.std.proofs.Common.{take}
use Rattle.cqf_relay.proofs.Going.{HasComeSoFar}
use Rattle.cqf_relay.proofs.relay.Relay.has_come.Given as goal

abbrev pub invariant-loop-inlet : goal.invariant-loop-inlet
invariant-loop-inlet l = HasComeSoFar l.index l.have l.self (take l.inlet-index l.inlet-items)
