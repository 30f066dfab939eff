use Rattle.std.proofs.Common.{ℕ, ◌+◌, min, refl, ap, ◌∙◌, arith}
use Rattle.cqf_port.proofs.Coming.{closed_for_good}
use Rattle.cqf_port.proofs.late.was_open.Goals as goal

-- the class is open at this instant
pub returns-then-is_open : goal.returns-then-is_open
returns-then-is_open c = (
  λ yes. record {
    instant = c.loop-t.t;
    from_first = c.loop-t.invariant.in_order;
    before_last = omega arith;
    is_open =
        c.is_open.ensures.0 c.if-is_open.true;
  },
  λ was. refl,
)

-- the class was closed for a whole round or up to the end
pub returns : goal.returns
returns c = (
  λ yes. absurd (cc),
  λ was. absurd (closed_for_good c.mask_is_in_force.ensures.states c.mask_is_in_force.ensures.some c.args.schedule.now c.args.class
      c.args.first.0 c.min-end.result c.args.last.0 (omega (arith, c.round.ensures.some, c.round.ensures.value))
      (c.min-end.ensures ∙ ap (λ (round : ℕ). min c.args.last.0 (c.args.first.0 + round)) c.round.ensures.value)
      (λ s from to. c.loop-t.invariant.closed s from (omega arith)) was),
)
