use Rattle.cqf_laws_cycle.proofs.Batches.{frames_in_order}
use Rattle.cqf_laws_cycle.proofs.bridges.frames_keep_their_order.Goals as goal

pub returns : goal.returns
returns c = frames_in_order
