use Rattle.std.proofs.Common.{◌≡◌}
use Rattle.cqf_book.specs.Shares.{new_shares}
use Rattle.cqf_book.proofs.cycle_book.one_each.Given as goal

-- the bridges below have their shares
abbrev pub invariant-loop-bridge : goal.invariant-loop-bridge
invariant-loop-bridge l = l.shares.items ≡ new_shares l.bridge
