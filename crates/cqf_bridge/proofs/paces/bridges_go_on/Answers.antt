use Rattle.cqf_bridge.proofs.Going.{receive_wants_memory, send_wants_memory, stands_before, stands_halfway}
use Rattle.cqf_bridge.proofs.paces.bridges_go_on.Goals as goal

pub returns-clause-before : goal.returns-clause-before
returns-clause-before c t entries course bridge cycle w given are inside has =
    stands_before t entries course given are c.new_bridge_follows.ensures.follows c.sending_follows.ensures c.receiving_follows.ensures
    c.legal_network_exists.ensures bridge cycle w inside has

pub returns-clause-halfway : goal.returns-clause-halfway
returns-clause-halfway c t entries course bridge cycle w given are inside has =
    stands_halfway t entries course given are c.new_bridge_follows.ensures.follows c.sending_follows.ensures c.receiving_follows.ensures
    c.legal_network_exists.ensures bridge cycle w inside has

pub returns-clause-sends : goal.returns-clause-sends
returns-clause-sends c t entries course bridge w after fault given are inside h =
    send_wants_memory t entries course given are c.new_bridge_follows.ensures.follows c.sending_follows.ensures c.receiving_follows.ensures
    c.legal_network_exists.ensures c.no_other_fault.ensures.sends bridge w after fault inside h

pub returns-clause-receives : goal.returns-clause-receives
returns-clause-receives c t entries course bridge w after fault given are inside all h =
    receive_wants_memory t entries course given are c.new_bridge_follows.ensures.follows c.sending_follows.ensures c.receiving_follows.ensures
    c.legal_network_exists.ensures c.no_other_fault.ensures.receives c.history_loses_nothing.ensures.history bridge w after fault inside all h
