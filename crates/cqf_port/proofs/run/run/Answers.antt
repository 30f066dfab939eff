use Rattle.std.proofs.Common.{ℕ, ◌≡◌, subst, arith}
use Rattle.cqf_port.specs.PortState.{rules_of}
use Rattle.cqf_port.specs.Progress.{IsAbreast}
use Rattle.cqf_port.proofs.More.{none_more, more_again}
use Rattle.cqf_port.proofs.run.run.Goals as goal

-- at first nothing was added
pub instants-init : goal.instants-init
instants-init c = record {
  abreast = c.requires.abreast;
  more = none_more c.args.starts.now.items c.args.reached.0;
  from_reached = omega arith;
  in_time = omega arith;
}

-- what a refused instant added
pub returns-in_err-after-clause-more : goal.returns-in_err-after-clause-more
returns-in_err-after-clause-more c = more_again c.args.starts.now.items c.instants.starts.items c.step.new.starts.items c.args.reached.0
    c.instants.t c.instants.invariant.more c.step.ensures.more c.instants.invariant.from_reached

-- the next instant at which anything can happen, or the end
pub instants-preserved : goal.instants-preserved
instants-preserved c = record {
  abreast = c.in_ok-after.ensures.ok.abreast _ (omega (arith, c.in_ok-after.ensures.ok.later)) (omega arith);
  more = more_again c.args.starts.now.items c.instants.starts.items c.step.new.starts.items c.args.reached.0 c.instants.t
      c.instants.invariant.more c.step.ensures.more c.instants.invariant.from_reached;
  from_reached = omega (arith, c.in_ok-after.ensures.ok.later);
  in_time = omega arith;
}

-- nearer to the end
pub instants-smaller : goal.instants-smaller
instants-smaller c = omega (arith, c.in_ok-after.ensures.ok.later)

-- the end is reached
pub returns-clause-ok : goal.returns-clause-ok
returns-clause-ok c =
    let at_end : c.instants.t ≡ c.args.until.0 = omega arith in
    subst (λ (t : ℕ). IsAbreast (rules_of c.args.egress.now.schedule.now c.args.egress.now.rate) c.args.egress.now.arrivals.now t
    c.instants.starts.items c.instants.progress) at_end c.instants.invariant.abreast
