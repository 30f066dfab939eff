use Rattle.std.proofs.Common.{◌≡◌, map, take}
use Rattle.cqf_book.specs.Shares.{said}
use Rattle.cqf_book.proofs.same_pages.are_same.Given as goal

-- the pages below the index say the same
abbrev pub invariant-loop-index : goal.invariant-loop-index
invariant-loop-index l = map said (take l.index l.pages) ≡ map said (take l.index l.others)
