use Rattle.cqf_bridge.proofs.TakenCycles.{cycle_is_received}
use Rattle.cqf_bridge.proofs.cycles.receiving_follows.Goals as goal

pub returns : goal.returns
returns c run cycles cycle net before after drops =
    cycle_is_received run cycles cycle net before after drops c.cycle_brings_its_batches.ensures.brings c.gate_is_reservation.ensures
    c.port_goes_on.ensures.goes_on c.port_goes_on.ensures.queued c.queued_frames_wait.ensures c.closed_arrivals_change_nothing.ensures
