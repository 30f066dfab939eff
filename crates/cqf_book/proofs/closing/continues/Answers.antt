use Rattle.std.proofs.Common.{◌∙◌, ap, map, sym}
use Rattle.std.proofs.lemmas.Bool.{true≢false}
use Rattle.cqf_book.specs.Shares.{said}
use Rattle.cqf_book.proofs.Alike.{back_alike, front_alike, parts_alike}
use Rattle.cqf_book.proofs.closing.continues.Goals as goal

-- the first pages don't say what the earlier ones say
pub returns-then-not-are_same : goal.returns-then-not-are_same
returns-then-not-are_same c = (
  λ never. absurd (true≢false (sym never)),
  λ same.
      sym c.if-not-are_same.true
      ∙ c.are_same.ensures.1 (ap (map said) c.split_at.ensures.front ∙ front_alike c.args.pages.now c.args.earlier.now c.args.later.now same),
)

-- they do, so the answer depends on the pages after them
pub returns : goal.returns
returns c = (
  λ so. parts_alike c.args.pages.now c.args.earlier.now c.args.later.now
      (sym (ap (map said) c.split_at.ensures.front) ∙ c.are_same.ensures.0 c.if-not-are_same.false)
      (sym (ap (map said) c.split_at.ensures.back) ∙ c.are_same-2.ensures.0 so),
  λ same. c.are_same-2.ensures.1 (ap (map said) c.split_at.ensures.back ∙ back_alike c.args.pages.now c.args.earlier.now c.args.later.now same),
)
