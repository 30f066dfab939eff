use Rattle.std.proofs.Common.{◌≡◌, length}
use Rattle.cqf_test_threads.proofs.pipes.puts.Given as goal

-- the given number of items were put, in the same pipe
abbrev pub invariant-loop-number : goal.invariant-loop-number
invariant-loop-number g l = (length l.into.items ≡ l.number) × (l.into.pipe ≡ l.fn.into.pipe)
