use Rattle.std.proofs.Common.{ap, refl}
use Rattle.cqf_bridge.specs.Taking.{received_as, verdict_as}
use Rattle.cqf_bridge.proofs.PolicedVerdicts.{takes_dropped}
use Rattle.cqf_bridge.proofs.recording.take_frame.Goals as goal

pub returns-in_ok-drop_offer-in-Dropped-clause-takes : goal.returns-in_ok-drop_offer-in-Dropped-clause-takes
returns-in_ok-drop_offer-in-Dropped-clause-takes c =
    takes_dropped c.args.phase.domain.now c.args.phase.table.now.rows c.args.phase.number c.args.phase.cycle.0 (received_as c.args.frame.now) c.args.gates.now _
    c.args.ports.now.items _ c.args.drops.now.items _ c.in_ok-outcome.outcome c.in_ok-outcome.ensures.police c.in-Dropped.reason
    (ap verdict_as c.in-Dropped.is) refl
    c.in_ok-drop_offer-in-Dropped.ensures
