use Rattle.cqf_laws_shift.proofs.CycleLaws.{cycle_laws}
use Rattle.cqf_laws_shift.proofs.RunsBeside.{run_beside_is_run_alone}
use Rattle.cqf_laws_shift.proofs.beside.run_beside_is_run_alone.Goals as goal

pub returns : goal.returns
returns c =
    run_beside_is_run_alone
    (cycle_laws c.port_is_one_cycle_late.ensures c.streams_are_sent_as_alone.ensures c.gate_gives_class.ensures c.gate_counts_cycles.ensures)
