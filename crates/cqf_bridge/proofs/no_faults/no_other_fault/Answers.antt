use Rattle.cqf_bridge.proofs.Losses.{batches_may_come, memory_alone, none_over}
use Rattle.cqf_bridge.proofs.no_faults.no_other_fault.Goals as goal

pub returns-clause-batches : goal.returns-clause-batches
returns-clause-batches c run cycles cycle bridge net compiled loses in_cycles =
    batches_may_come run cycles cycle bridge net compiled loses in_cycles c.cycle_brings_its_batches.ensures.whole c.run_is_its_cycles.ensures.losses

pub returns-clause-none_over : goal.returns-clause-none_over
returns-clause-none_over c =
    none_over c.cycle_brings_its_batches.ensures.whole c.cycle_brings_its_batches.ensures.brings c.run_is_its_cycles.ensures.losses
    c.gate_is_reservation.ensures

pub returns-clause-receives : goal.returns-clause-receives
returns-clause-receives c =
    memory_alone c.cycle_brings_its_batches.ensures.whole c.cycle_brings_its_batches.ensures.brings c.run_is_its_cycles.ensures.losses
    c.gate_is_reservation.ensures
