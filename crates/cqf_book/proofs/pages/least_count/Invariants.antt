use Rattle.cqf_book.specs.Whole.{IsLeastBelow}
use Rattle.cqf_book.proofs.pages.least_count.Given as goal

-- the least of the bridges seen so far
abbrev pub invariant-loop-pages : goal.invariant-loop-pages
invariant-loop-pages l = IsLeastBelow l.posted l.fn.cycles l.pages-index l.least
