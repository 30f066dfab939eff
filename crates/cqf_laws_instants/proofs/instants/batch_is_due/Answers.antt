use Rattle.cqf_laws_shift.proofs.CycleLaws.{cycle_laws}
use Rattle.cqf_laws_instants.proofs.Booked.{starts_are_in_turn}
use Rattle.cqf_laws_instants.proofs.Dues.{batch_is_due, first_batch_is_empty}
use Rattle.cqf_laws_instants.proofs.instants.batch_is_due.Goals as goal

pub returns-clause-due : goal.returns-clause-due
returns-clause-due c =
    batch_is_due
    (cycle_laws c.port_is_one_cycle_late.ensures c.streams_are_sent_as_alone.ensures c.gate_gives_class.ensures c.gate_counts_cycles.ensures)
    c.run_beside_is_run_alone.ensures

pub returns-clause-starts : goal.returns-clause-starts
returns-clause-starts c =
    starts_are_in_turn
    (cycle_laws c.port_is_one_cycle_late.ensures c.streams_are_sent_as_alone.ensures c.gate_gives_class.ensures c.gate_counts_cycles.ensures)
    c.run_beside_is_run_alone.ensures

pub returns-clause-first : goal.returns-clause-first
returns-clause-first c =
    first_batch_is_empty
    (cycle_laws c.port_is_one_cycle_late.ensures c.streams_are_sent_as_alone.ensures c.gate_gives_class.ensures c.gate_counts_cycles.ensures)
    c.run_beside_is_run_alone.ensures
