use Rattle.cqf_units.specs.Timing.{ticks_of_octet}
use Rattle.cqf_port.specs.Asked.{AreAsked}
use Rattle.cqf_port.proofs.choice.ask.Given as goal

-- the classes so far are set if they fit
abbrev pub invariant-loop-class : goal.invariant-loop-class
invariant-loop-class l = AreAsked (ticks_of_octet l.rate) l.arrivals l.heads l.t.0 l.left l.class l.asked.classes l.asked.need l.asked.left
