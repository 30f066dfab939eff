use Rattle.std.proofs.Common.{◌++◌, Option, length, map, subst, sym, true≢false, ◌∙◌, ℕ}
use Rattle.cqf_admission.specs.Admission.{recorded_of}
use Rattle.cqf_desk.specs.Closing.{ComesToLeast}
use Rattle.cqf_desk.proofs.Against.{are_of_seats, is_none, names_none}
use Rattle.cqf_desk.proofs.closing.check.Goals as goal

pub returns-then-not-are_known : goal.returns-then-not-are_known
returns-then-not-are_known c =
    names_none c.args.opening.now c.args.held.now c.args.count c.in-Some.rest.now c.args.seats.now c.in-Some.ensures
    (subst (λ (o : Option ℕ). ComesToLeast c.args.opening.now.domain (c.args.opening.now.entries ++ map recorded_of c.in-Some.rest.now)
    (length c.args.opening.now.entries) c.args.seats.now o) (is_none c.in_ok-seat.field-0 c.in_default-2.not-Some) c.in_ok-seat.ensures)
    (λ known. true≢false (sym (c.are_known.ensures.1 known) ∙ c.if-not-are_known.true))

pub returns : goal.returns
returns c =
    are_of_seats c.args.opening.now c.args.held.now c.args.count c.in-Some.rest.now c.args.seats.now c.in-Some.ensures c.know.ensures.legal
    (subst (λ (o : Option ℕ). ComesToLeast c.args.opening.now.domain (c.args.opening.now.entries ++ map recorded_of c.in-Some.rest.now)
    (length c.args.opening.now.entries) c.args.seats.now o) (is_none c.in_ok-seat.field-0 c.in_default-2.not-Some) c.in_ok-seat.ensures)
    (c.are_known.ensures.0 c.if-not-are_known.false)
