use Rattle.std.proofs.Common.{◌≡◌, length, take}
use Rattle.cqf_worker_loops.specs.Commands.{HasCalled}
use Rattle.cqf_worker_loops.proofs.calling.make_calls.Given as goal

-- the commands before the index were made
abbrev pub invariant-loop-index : goal.invariant-loop-index
invariant-loop-index g l = HasCalled (take l.index l.fn.commands.items) l.fn.seat l.seat × (l.index-end ≡ length l.fn.commands.items)
