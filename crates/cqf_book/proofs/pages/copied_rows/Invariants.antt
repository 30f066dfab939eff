use Rattle.std.proofs.Common.{◌≡◌, map, take}
use Rattle.cqf_book.specs.Shares.{said}
use Rattle.cqf_book.proofs.pages.copied_rows.Given as goal

-- the copies of the rows below the index say the same
abbrev pub invariant-loop-pages : goal.invariant-loop-pages
invariant-loop-pages l = map (map said) l.rows.items ≡ map (map said) (take l.pages-index l.posted)
