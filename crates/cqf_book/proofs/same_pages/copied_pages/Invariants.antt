use Rattle.std.proofs.Common.{◌≡◌, map, take}
use Rattle.cqf_book.specs.Shares.{said}
use Rattle.cqf_book.proofs.same_pages.copied_pages.Given as goal

-- the copies of the pages below the index say the same
abbrev pub invariant-loop-page : goal.invariant-loop-page
invariant-loop-page l = map said l.copies.items ≡ map said (take l.page-index l.pages)
