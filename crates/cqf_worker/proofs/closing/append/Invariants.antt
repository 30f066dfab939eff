use Rattle.std.proofs.Common.{◌≡◌, ◌++◌}
use Rattle.std.specs.Vec.Iter.{into_iter_items}
use Rattle.cqf_worker.proofs.closing.append.Given as goal

-- the items so far were appended to those before
abbrev pub invariant-loop-item : goal.invariant-loop-item
invariant-loop-item g l = (l.list.items ≡ l.fn.list.items ++ l.yielded) × (l.yielded ++ into_iter_items l.item-iterator ≡ l.fn.more.items)
