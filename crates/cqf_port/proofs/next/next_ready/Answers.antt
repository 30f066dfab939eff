use Rattle.std.proofs.Common.{inl, inr, arith}
use Rattle.std.proofs.lemmas.Bool.{cases_lt}
use Rattle.cqf_port.specs.PortState.{rules_of}
use Rattle.cqf_port.proofs.Coming.{never_ready}
use Rattle.cqf_port.proofs.next.next_ready.Goals as goal

-- a head is ready
pub returns-in-Some : goal.returns-in-Some
returns-in-Some c = record {
  later = c.events.invariant.from;
  none_before = c.events.invariant.none;
  index = _;
  chosen = c.in-Some.ensures;
}

-- none is up to the next instant at which one can be
pub events-preserved : goal.events-preserved
events-preserved c =
    record {
      from = omega (arith, c.events.invariant.from, c.idle_until.ensures.later);
      in_time = omega arith;
      none = λ s after soon. elim (cases_lt s c.events.t) [
        | inl before ↦ c.events.invariant.none s after before
        | inr here ↦ c.idle_until.ensures.idle s here (omega arith)
      ];
    }

-- nearer to the horizon
pub events-smaller : goal.events-smaller
events-smaller c = omega (arith, c.idle_until.ensures.later)

-- none is in a whole round
pub returns : goal.returns
returns c =
    let goes_by = rules_of c.args.egress.now.schedule.now c.args.egress.now.rate in
    never_ready c.mask_is_in_force.ensures.states c.mask_is_in_force.ensures.some goes_by c.args.egress.now.arrivals.now c.args.heads.now
    c.args.from.0 c.all_come.result.0 (omega (arith, c.round.ensures.some, c.round.ensures.value)) c.all_come.ensures.from c.all_come.ensures.come
    (λ s after soon. c.events.invariant.none s after (omega (arith, c.round.ensures.value)))
