use Rattle.std.proofs.Common.{◌∙◌, arith, sym}
use Rattle.std.proofs.lemmas.Bool.{true≢false}
use Rattle.cqf_book.proofs.Alike.{alike_at}
use Rattle.cqf_book.proofs.same_pages.are_same.Goals as goal

-- pages that say the same do so at each index
pub returns-then-not-is_same : goal.returns-then-not-is_same
returns-then-not-is_same c = (
  λ never. absurd (true≢false (sym never)),
  λ same.
      sym c.if-not-is_same.true
      ∙ c.is_same.ensures.1 (alike_at c.args.pages.now c.args.others.now same c.loop-index.index c.index-pages-index.result c.index-others-index.result
      (omega arith) c.index-pages-index.is c.index-others-index.is),
)
