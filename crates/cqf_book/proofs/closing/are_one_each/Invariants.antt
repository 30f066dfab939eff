use Rattle.std.proofs.Common.{ℕ, ◌≡◌, ◌<◌, length, count_by}
use Rattle.cqf_book.specs.Shares.{is_of}
use Rattle.cqf_book.proofs.closing.are_one_each.Given as goal

-- each bridge below has one share, and there are as many shares as bridges
abbrev pub invariant-loop-bridge : goal.invariant-loop-bridge
invariant-loop-bridge l = (length l.shares ≡ l.fn.bridges) × ((bridge : ℕ) → bridge < l.bridge → count_by (is_of bridge) l.shares ≡ 1)
