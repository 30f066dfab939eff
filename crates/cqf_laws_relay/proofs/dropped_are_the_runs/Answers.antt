use Rattle.cqf_laws_relay.proofs.Drops.{dropped_are_the_runs}
use Rattle.cqf_laws_relay.proofs.dropped_are_the_runs.Goals as goal

pub returns : goal.returns
returns c =
    dropped_are_the_runs c.taken_is_covered.ensures c.gates_mean_the_shift.ensures c.relayed_frames_are_queued_or_lost.ensures
