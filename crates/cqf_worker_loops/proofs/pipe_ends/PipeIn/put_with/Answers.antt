use Rattle.std.proofs.Common.{ap, arith, length}
use Rattle.cqf_worker_loops.proofs.PipeSteps.{sends}
use Rattle.cqf_worker_loops.proofs.pipe_ends.PipeIn.put_with.Goals as goal

-- the pass may put, and these items are within the million
pub send_as-requires-clause-rule : goal.send_as-requires-clause-rule
send_as-requires-clause-rule g c =
    (sends _ _ _ _ (ap (λ v. v.puts) c.self.invariant.1) (omega (arith, c.requires.room, ap (λ e. length e.items) c.self.view_is)), λ items views h at. tt)
