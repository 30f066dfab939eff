use Rattle.cqf_relay.specs.Standing.{GoesOnAlone}
use Rattle.cqf_relay.proofs.relay.Relay.send.Given as goal

abbrev pub invariant-loop-index : goal.invariant-loop-index
invariant-loop-index l = GoesOnAlone l.fn.self l.self
