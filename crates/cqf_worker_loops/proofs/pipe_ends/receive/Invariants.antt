use Rattle.std.proofs.Common.{◌≡◌}
use Rattle.crossbeam_channel.specs.Claims.{IsSeatAt, view}
use Rattle.crossbeam_channel.specs.Ends.{receives_on}
use Rattle.cqf_worker_loops.proofs.pipe_ends.receive.Given as goal

-- the pass is still the channel's, and its view is unchanged
abbrev pub invariant-loop : goal.invariant-loop
invariant-loop g l = IsSeatAt (receives_on l.receiver) l.pass × (l.pass.id ≡ l.initial.pass.id) × (view l.pass ≡ view l.initial.pass)
