use Rattle.std.proofs.Common.{ap, arith, length}
use Rattle.cqf_worker_loops.proofs.PipeSteps.{sends}
use Rattle.cqf_worker_loops.proofs.pipe_ends.PipeIn.try_put.Goals as goal

-- the pass may put, and one more item is within the million
pub try_send_as-requires-clause-rule : goal.try_send_as-requires-clause-rule
try_send_as-requires-clause-rule g c = (
  sends _ _ _ _ (ap (λ v. v.puts) c.self.invariant.1)
      (omega (arith, c.requires.room, ap (λ e. length e.items) c.self.view_is, ap length c.new.ensures.items)),
  λ items views h at. tt,
)
