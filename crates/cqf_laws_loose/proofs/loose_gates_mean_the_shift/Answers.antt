use Rattle.cqf_laws_shift.proofs.CycleLaws.{cycle_laws}
use Rattle.cqf_laws_loose.proofs.Loose.{loose_gates_mean_the_shift}
use Rattle.cqf_laws_loose.proofs.loose_gates_mean_the_shift.Goals as goal

pub returns : goal.returns
returns c =
    loose_gates_mean_the_shift
    (cycle_laws c.port_is_one_cycle_late.ensures c.streams_are_sent_as_alone.ensures c.gate_gives_class.ensures c.gate_counts_cycles.ensures)
