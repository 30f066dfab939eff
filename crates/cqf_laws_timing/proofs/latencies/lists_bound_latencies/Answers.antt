use Rattle.cqf_laws_shift.proofs.CycleLaws.{cycle_laws}
use Rattle.cqf_laws_timing.proofs.Kept.{history_is_timely, verdicts_hold}
use Rattle.cqf_laws_timing.proofs.latencies.lists_bound_latencies.Goals as goal

pub returns-clause-timely : goal.returns-clause-timely
returns-clause-timely c =
    history_is_timely
    (cycle_laws c.port_is_one_cycle_late.ensures c.streams_are_sent_as_alone.ensures c.gate_gives_class.ensures c.gate_counts_cycles.ensures)
    c.run_beside_is_run_alone.ensures c.gates_mean_the_shift.ensures c.tables_are_orderly.ensures.orderly

pub returns-clause-verdicts : goal.returns-clause-verdicts
returns-clause-verdicts c =
    verdicts_hold
    (cycle_laws c.port_is_one_cycle_late.ensures c.streams_are_sent_as_alone.ensures c.gate_gives_class.ensures c.gate_counts_cycles.ensures)
    c.run_beside_is_run_alone.ensures c.gates_mean_the_shift.ensures c.tables_are_orderly.ensures.orderly
