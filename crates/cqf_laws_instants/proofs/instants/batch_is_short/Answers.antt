use Rattle.cqf_laws_shift.proofs.CycleLaws.{cycle_laws}
use Rattle.cqf_laws_instants.proofs.Shorts.{batch_is_short}
use Rattle.cqf_laws_instants.proofs.instants.batch_is_short.Goals as goal

pub returns : goal.returns
returns c =
    batch_is_short
    (cycle_laws c.port_is_one_cycle_late.ensures c.streams_are_sent_as_alone.ensures c.gate_gives_class.ensures c.gate_counts_cycles.ensures)
    c.run_beside_is_run_alone.ensures c.gates_mean_the_shift.ensures
