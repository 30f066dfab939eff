use Rattle.std.proofs.Common.{rules}
use Rattle.std.proofs.lemmas.Slice.Eq.{slice_eq-Decides}
use Rattle.cqf_book.proofs.same_pages.are_same_starts.Goals as goal

-- the lists are equal if and only if their elements are
pub returns : goal.returns
returns c = slice_eq-Decides (λ a b. search rules) _ _ _ c.eq.ensures
