use Rattle.cqf_laws_relay.proofs.Kept.{kept_are_covered}
use Rattle.cqf_laws_relay.proofs.kept_are_covered.Goals as goal

pub returns : goal.returns
returns c = kept_are_covered c.taken_is_covered.ensures c.what_a_cycle_queues.ensures.covering
