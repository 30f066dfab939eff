use Rattle.std.proofs.Common.{arith, sym, ◌∙◌}
use Rattle.cqf_admission.specs.Admission.{recorded_of}
use Rattle.cqf_desk.proofs.Alike.{alike_at}
use Rattle.cqf_desk.proofs.same.are_same_entries.Goals as goal

pub returns-then-not-is_same_entry : goal.returns-then-not-is_same_entry
returns-then-not-is_same_entry c = (
  λ none. absurd cc,
  λ same. sym c.if-not-is_same_entry.true ∙ c.is_same_entry.ensures.1 (alike_at recorded_of c.args.these.now c.args.those.now c.loop-index.index
      c.index-these-index.result c.index-those-index.result c.loop-index-test.true (omega (arith, c.loop-index-test.true, c.if-these-those.false))
      c.index-these-index.is c.index-those-index.is same),
)
