use Rattle.cqf_relay.proofs.LearnedRows.{LearnedBelow}
use Rattle.cqf_relay.proofs.relay.learn_on_each.Given as goal

abbrev pub invariant-loop-index : goal.invariant-loop-index
invariant-loop-index l = LearnedBelow l.row l.index l.initial.outlets l.outlets
