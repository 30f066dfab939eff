use Rattle.cqf_relay.proofs.New.{NewOutletsBelow}
use Rattle.cqf_relay.proofs.relay.new_outlets.Given as goal

abbrev pub invariant-loop-index : goal.invariant-loop-index
invariant-loop-index l = NewOutletsBelow l.domain l.number l.index l.outlets.items
