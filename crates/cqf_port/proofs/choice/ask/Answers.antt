use Rattle.std.proofs.Common.{◌+◌, refl, sym, subst}
use Rattle.cqf_units.specs.Timing.{ticks_of_octet}
use Rattle.cqf_port.specs.Asked.{AreAsked}
use Rattle.cqf_port.specs.declared.choice.Asked.{Asked}
use Rattle.cqf_port.proofs.Chosen.{none_asked, asked_none, asked_some}
use Rattle.cqf_port.proofs.choice.ask.Goals as goal
use Rattle.cqf_port.proofs.choice.ask.Goals.{in-Some, in_default}

-- at first no class is set
pub loop-class-init : goal.loop-class-init
loop-class-init c = none_asked _ _ _ _ _ _ _ refl refl

-- one more class is set, or isn't
pub loop-class-preserved : goal.loop-class-preserved
loop-class-preserved c =
    let octet_time = ticks_of_octet c.args.rate in
    let asked = c.loop-class.asked in
    elim c.match-asked_of.branch [
      | in-Some w ↦ subst (λ (after : Asked). AreAsked octet_time c.args.arrivals.now c.args.heads.now c.args.t.0 c.args.left.now
          (c.loop-class.class + 1) after.classes after.need after.left) (sym w.asked-is)
          (asked_some octet_time c.args.arrivals.now c.args.heads.now c.args.t.0 c.args.left.now c.loop-class.class asked.classes asked.need
          asked.left c.loop-class-test.true c.loop-class.invariant w.in-Some.ensures.short w.in-Some.need w.in-Some.open _ refl w.in-Some.ensures.asked)
      | in_default w ↦ subst (λ (after : Asked). AreAsked octet_time c.args.arrivals.now c.args.heads.now c.args.t.0 c.args.left.now
          (c.loop-class.class + 1) after.classes after.need after.left) (sym w.asked-is)
          (asked_none octet_time c.args.arrivals.now c.args.heads.now c.args.t.0 c.args.left.now c.loop-class.class asked.classes asked.need
          asked.left c.loop-class-test.true c.loop-class.invariant w.in_default.ensures.short w.in_default.ensures.asked)
    ]
