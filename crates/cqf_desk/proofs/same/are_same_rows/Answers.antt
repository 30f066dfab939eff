use Rattle.std.proofs.Common.{arith, sym, ◌∙◌}
use Rattle.std.specs.Arc.{arc_value}
use Rattle.cqf_desk.proofs.Alike.{alike_at}
use Rattle.cqf_desk.proofs.same.are_same_rows.Goals as goal

pub returns-then-not-is_same_row : goal.returns-then-not-is_same_row
returns-then-not-is_same_row c = (
  λ none. absurd cc,
  λ same. sym c.if-not-is_same_row.true ∙ c.is_same_row.ensures.1 (c.deref.ensures ∙ alike_at (λ row. arc_value row) c.args.these.now c.args.those.now
      c.loop-index.index c.index-these-index.result c.index-those-index.result c.loop-index-test.true
      (omega (arith, c.loop-index-test.true, c.if-these-those.false)) c.index-these-index.is c.index-those-index.is same ∙ sym c.deref-in-loop-index.ensures),
)
