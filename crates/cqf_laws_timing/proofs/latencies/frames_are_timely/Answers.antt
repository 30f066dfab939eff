use Rattle.cqf_laws_shift.proofs.CycleLaws.{cycle_laws}
use Rattle.cqf_laws_timing.proofs.Timely.{book_is_timely, bounds_are_short, latency_is_within_held, starts_are_whole_within_held}
use Rattle.cqf_laws_timing.proofs.Within.{frames_are_whole_within_held, frames_are_whole_within_queued}
use Rattle.cqf_laws_timing.proofs.latencies.frames_are_timely.Goals as goal

pub returns-clause-whole : goal.returns-clause-whole
returns-clause-whole c =
    frames_are_whole_within_held
    (cycle_laws c.port_is_one_cycle_late.ensures c.streams_are_sent_as_alone.ensures c.gate_gives_class.ensures c.gate_counts_cycles.ensures)
    c.run_beside_is_run_alone.ensures c.gates_mean_the_shift.ensures

pub returns-clause-latency : goal.returns-clause-latency
returns-clause-latency c =
    latency_is_within_held
    (cycle_laws c.port_is_one_cycle_late.ensures c.streams_are_sent_as_alone.ensures c.gate_gives_class.ensures c.gate_counts_cycles.ensures)
    c.run_beside_is_run_alone.ensures c.gates_mean_the_shift.ensures

pub returns-clause-starts : goal.returns-clause-starts
returns-clause-starts c =
    starts_are_whole_within_held
    (cycle_laws c.port_is_one_cycle_late.ensures c.streams_are_sent_as_alone.ensures c.gate_gives_class.ensures c.gate_counts_cycles.ensures)
    c.run_beside_is_run_alone.ensures c.gates_mean_the_shift.ensures

pub returns-clause-book : goal.returns-clause-book
returns-clause-book c =
    book_is_timely
    (cycle_laws c.port_is_one_cycle_late.ensures c.streams_are_sent_as_alone.ensures c.gate_gives_class.ensures c.gate_counts_cycles.ensures)
    c.run_beside_is_run_alone.ensures c.gates_mean_the_shift.ensures

pub returns-clause-queued : goal.returns-clause-queued
returns-clause-queued c =
    frames_are_whole_within_queued
    (cycle_laws c.port_is_one_cycle_late.ensures c.streams_are_sent_as_alone.ensures c.gate_gives_class.ensures c.gate_counts_cycles.ensures)
    c.run_beside_is_run_alone.ensures

pub returns-clause-short : goal.returns-clause-short
returns-clause-short c = bounds_are_short
