use Rattle.cqf_laws_shift.proofs.CycleLaws.{cycle_laws}
use Rattle.cqf_laws_loose.proofs.Exists.{loose_network_exists}
use Rattle.cqf_laws_loose.proofs.loose_network_exists.Goals as goal

pub returns : goal.returns
returns c =
    loose_network_exists c.legal_starts_exist.ensures c.late_arrival_changes_nothing.ensures c.the_past_alone_matters.ensures.sends
    (cycle_laws c.port_is_one_cycle_late.ensures c.streams_are_sent_as_alone.ensures c.gate_gives_class.ensures c.gate_counts_cycles.ensures)
    c.port_list_is_open.ensures
