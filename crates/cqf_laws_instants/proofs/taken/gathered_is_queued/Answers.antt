use Rattle.cqf_laws_instants.proofs.Hops.{covered_by_tree, relayed_by_tree, uncovered_nowhere}
use Rattle.cqf_laws_instants.proofs.Queues.{gathered_queued}
use Rattle.cqf_laws_instants.proofs.taken.gathered_is_queued.Goals as goal

pub returns-clause-queue : goal.returns-clause-queue
returns-clause-queue c run net l cycle batches sorted legal within_run few are =
    let b = c.cycle_brings_its_batches.ensures in
    gathered_queued b.whole b.brings c.frames_keep_their_order.ensures run _ l cycle net (record { accepted = legal.accepted; legal = legal.legal }) batches are
    (c.gates_mean_the_shift.ensures run net legal) few sorted (c.what_a_cycle_queues.ensures.queues run net l cycle legal within_run)

pub returns-clause-relayed : goal.returns-clause-relayed
returns-clause-relayed c run net l m cycle table sent row legal =
    let b = c.cycle_brings_its_batches.ensures in
    relayed_by_tree b.whole b.brings c.frames_keep_their_order.ensures c.run_is_its_cycles.ensures.cycles c.relayed_frames_are_queued_or_lost.ensures
    run net legal (c.gates_mean_the_shift.ensures run net legal) l m cycle table sent row

pub returns-clause-covered : goal.returns-clause-covered
returns-clause-covered c = covered_by_tree

pub returns-clause-uncovered : goal.returns-clause-uncovered
returns-clause-uncovered c = uncovered_nowhere
