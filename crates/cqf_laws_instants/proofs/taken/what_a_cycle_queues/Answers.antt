use Rattle.cqf_laws_instants.proofs.After.{covering_covers, cycle_queues, sorted_queued}
use Rattle.cqf_laws_instants.proofs.taken.what_a_cycle_queues.Goals as goal

pub returns-clause-covering : goal.returns-clause-covering
returns-clause-covering c = covering_covers

pub returns-clause-queues : goal.returns-clause-queues
returns-clause-queues c run net l cycle legal within_run =
    cycle_queues c.port_goes_on.ensures.queued c.run_is_its_cycles.ensures.cycles c.relayed_frames_are_queued_or_lost.ensures
    c.gates_mean_the_shift.ensures run net l cycle legal within_run

pub returns-clause-sorted : goal.returns-clause-sorted
returns-clause-sorted c run net l cycle batches sorted legal within_run =
    sorted_queued c.port_goes_on.ensures.queued c.run_is_its_cycles.ensures.cycles c.relayed_frames_are_queued_or_lost.ensures
    c.gates_mean_the_shift.ensures run net l cycle legal within_run c.sorted_is_taken.ensures.sorted batches sorted
