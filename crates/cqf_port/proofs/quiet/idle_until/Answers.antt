use Rattle.std.proofs.Common.{◌<◌, ◌-◌, ◌^◌, None, get_or, subst, arith}
use Rattle.cqf_port.specs.PortState.{rules_of}
use Rattle.cqf_port.specs.Quiet.{IsIdleOf, Turns}
use Rattle.cqf_port.proofs.Waiting.{idle_each, idle_one_more, turns_less}
use Rattle.cqf_port.proofs.quiet.idle_until.Goals as goal

-- one more class is, up to the lesser of both
pub loop-class-preserved : goal.loop-class-preserved
loop-class-preserved c =
    let goes_by = rules_of c.args.egress.now.schedule.now c.args.egress.now.rate in
    let class = c.loop-class.class in
    let here : IsIdleOf goes_by c.args.egress.now.arrivals.now (get_or c.args.heads.now class None) c.args.t.0 c.idle_of.result.0 =
    subst (λ n. IsIdleOf goes_by c.args.egress.now.arrivals.now (get_or c.args.heads.now n None) c.args.t.0 c.idle_of.result.0) c.from.ensures
    c.idle_of.ensures.idle in
    record {
      later = omega (arith, c.loop-class.invariant.later, c.idle_of.ensures.later, c.min-until.ensures);
      idle = idle_one_more goes_by c.args.egress.now.arrivals.now c.args.heads.now c.args.t.0 c.loop-class.until c.idle_of.result.0 _ class
          c.loop-class.invariant.idle here (omega (arith, c.min-until.ensures)) (omega (arith, c.min-until.ensures));
      within = omega (arith, c.loop-class.invariant.within, c.min-until.ensures);
      turns = turns_less goes_by c.args.egress.now.arrivals.now c.args.heads.now c.loop-class.until c.idle_of.result.0 _ class (2 ^ 64 - 1)
          c.loop-class-test.true c.loop-class.invariant.within c.loop-class.invariant.turns
          (subst (λ n. c.idle_of.result.0 < c.loop-class.until → Turns goes_by c.args.egress.now.arrivals.now (get_or c.args.heads.now n None)
          c.idle_of.result.0) c.from.ensures c.idle_of.ensures.turns) c.min-until.ensures;
    }

-- all eight are
pub returns-clause-idle : goal.returns-clause-idle
returns-clause-idle c = idle_each (rules_of c.args.egress.now.schedule.now c.args.egress.now.rate) c.args.egress.now.arrivals.now
    c.args.heads.now c.args.t.0 c.loop-class.until (λ class low. c.loop-class.invariant.idle class (omega arith))
