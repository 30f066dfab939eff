use Rattle.cqf_relay.proofs.New.{NewInletsBelow}
use Rattle.cqf_relay.proofs.relay.new_inlets.Given as goal

abbrev pub invariant-loop-link : goal.invariant-loop-link
invariant-loop-link l = NewInletsBelow l.domain l.number l.link l.inlets.items
