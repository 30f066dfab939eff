use Rattle.std.proofs.Common.{◌≡◌, [], replicate}
use Rattle.cqf_book.proofs.pages.no_pages.Given as goal

-- the bridges so far, without a page
abbrev pub invariant-loop-bridge : goal.invariant-loop-bridge
invariant-loop-bridge l = l.posted.items ≡ replicate l._bridge []
