-- The remaining classes among those tested so far are in time.
use Rattle.cqf_lanes.proofs.Bits.{AreLeft}
use Rattle.cqf_lanes.proofs.choice.eligible_plain.Given as goal

abbrev pub invariant-loop-class : goal.invariant-loop-class
invariant-loop-class l = AreLeft l.gates l.need l.left l.class l.classes
