use Rattle.cqf_laws_relay.proofs.Following.{relays_follow_the_network}
use Rattle.cqf_laws_relay.proofs.relays_follow_the_network.Goals as goal

pub returns : goal.returns
returns c =
    relays_follow_the_network c.cycle_brings_its_batches.ensures.whole c.gathered_is_queued.ensures.relayed c.gathered_is_queued.ensures.queue
    c.batch_is_due.ensures.first c.batch_is_due.ensures.due c.queue_has_room.ensures c.gates_mean_the_shift.ensures c.kept_are_covered.ensures
