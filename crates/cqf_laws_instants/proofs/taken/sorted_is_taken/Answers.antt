use Rattle.cqf_laws_instants.proofs.Gathers.{cycle_in_order, sorted_taken}
use Rattle.cqf_laws_instants.proofs.taken.sorted_is_taken.Goals as goal

pub returns-clause-order : goal.returns-clause-order
returns-clause-order c run cycles cycle bridge net compiled =
    let b = c.cycle_brings_its_batches.ensures in
    cycle_in_order b.whole b.brings c.frames_keep_their_order.ensures run cycles cycle bridge net compiled

pub returns-clause-sorted : goal.returns-clause-sorted
returns-clause-sorted c run cycles cycle bridge net batches passes sorted compiled are =
    let b = c.cycle_brings_its_batches.ensures in
    sorted_taken b.whole b.brings c.frames_keep_their_order.ensures run cycles cycle bridge net compiled batches are passes sorted
