use Rattle.cqf_laws_shift.proofs.CycleLaws.{cycle_laws}
use Rattle.cqf_laws_loose.proofs.Timely.{loose_frames_are_timely, loose_latency_is_within}
use Rattle.cqf_laws_loose.proofs.loose_frames_are_timely.Goals as goal

pub returns-clause-whole : goal.returns-clause-whole
returns-clause-whole c =
    loose_frames_are_timely
    (cycle_laws c.port_is_one_cycle_late.ensures c.streams_are_sent_as_alone.ensures c.gate_gives_class.ensures c.gate_counts_cycles.ensures)

pub returns-clause-latency : goal.returns-clause-latency
returns-clause-latency c =
    loose_latency_is_within
    (cycle_laws c.port_is_one_cycle_late.ensures c.streams_are_sent_as_alone.ensures c.gate_gives_class.ensures c.gate_counts_cycles.ensures)
