use Rattle.std.proofs.Common.{ℕ, ◌≡◌, ◌+◌, ◌++◌, Contains}
use Rattle.std.specs.Vec.Iter.{into_iter_items}
use Rattle.cqf_worker.specs.Closing.{AreFedBy}
use Rattle.cqf_worker.specs.Wires.{count_on}
use Rattle.cqf_worker_loops.specs.Workers.{SegmentPort}
use Rattle.cqf_worker.proofs.closing.close_links.Given as goal

-- the ports so far are fed, and the ends that are left are some of those given
abbrev pub invariant-loop-taking : goal.invariant-loop-taking
invariant-loop-taking l =
    (l.yielded ++ into_iter_items l.taking-iterator ≡ l.fn.ins.items)
    × ((out : SegmentPort) → Contains l.left.items out → Contains l.fn.outs.items out)
    × AreFedBy l.fn.outs.items l.yielded
    × ((link : ℕ) → count_on link l.fn.outs.items ≡ count_on link l.left.items + count_on link l.yielded)
