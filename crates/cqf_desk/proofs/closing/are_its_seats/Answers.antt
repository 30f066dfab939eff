use Rattle.std.proofs.Common.{arith, refl}
use Rattle.cqf_desk.proofs.Borne.{none_there}
use Rattle.cqf_desk.proofs.closing.are_its_seats.Goals as goal

pub returns-then-not-is_there : goal.returns-then-not-is_there
returns-then-not-is_there c = (
  λ none. absurd cc,
  none_there c.args.count c.args.seats.now c.loop-number.number c.is_there.result c.loop-number-test.true c.is_there.ensures c.if-not-is_there.true,
)

pub returns : goal.returns
returns c = (
  λ _. record {
    many = omega (arith, c.if-seats-from.false, c.from.ensures);
    each = λ number below. c.loop-number.invariant number (omega (arith, below, c.loop-number-test.false));
  },
  λ _. refl,
)
