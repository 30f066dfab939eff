use Rattle.cqf_bridge.proofs.SentCycles.{cycle_is_sent}
use Rattle.cqf_bridge.proofs.cycles.sending_follows.Goals as goal

pub returns : goal.returns
returns c run cycles cycle net before after given given_after =
    cycle_is_sent run cycles cycle net before after given given_after c.port_sends_what_came_before.ensures.starts
    c.background_comes_in_order.ensures.ports
