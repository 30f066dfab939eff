use Rattle.cqf_laws_cycle.proofs.PortCycles.{batch_is_made, sends_of_before}
use Rattle.cqf_laws_cycle.proofs.ports.port_sends_what_came_before.Goals as goal

pub returns-clause-sends : goal.returns-clause-sends
returns-clause-sends c run cycles cycle l net compiled in_cycles in_links =
    sends_of_before run cycles cycle l net compiled in_cycles in_links c.shorter_run_is_the_beginning.ensures.legal
    c.the_past_alone_matters.ensures.ports c.gate_gives_class.ensures c.port_list_is_open.ensures

pub returns-clause-starts : goal.returns-clause-starts
returns-clause-starts c run cycles cycle l net before made compiled in_cycles in_links =
    batch_is_made run cycles cycle l net compiled in_cycles in_links c.shorter_run_is_the_beginning.ensures.legal
    c.the_past_alone_matters.ensures.ports c.gate_gives_class.ensures c.port_list_is_open.ensures c.legal_starts_are_unique.ensures before made
