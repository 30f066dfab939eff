use Rattle.std.proofs.Common.{◌∙◌, ap}
use Rattle.cqf_worker_loops.proofs.PipeSteps.{receives}
use Rattle.cqf_worker_loops.proofs.pipe_ends.receive.Goals as goal

-- the pass may take
pub try_recv_as-requires-clause-rule : goal.try_recv_as-requires-clause-rule
try_recv_as-requires-clause-rule g c = (receives _ _ (ap (λ v. v.takes) (c.loop.invariant.2 ∙ c.requires.taker)), λ items views h at. tt)

pub recv_as-requires-clause-rule : goal.recv_as-requires-clause-rule
recv_as-requires-clause-rule g c = (receives _ _ (ap (λ v. v.takes) (c.loop.invariant.2 ∙ c.requires.taker)), λ items views h at. tt)
