use Rattle.std.proofs.Common.{◌-◌, length, reverse}
use Rattle.cqf_trace.proofs.Gathered.{IsGathering}
use Rattle.cqf_trace.proofs.gathering.gather.Given as goal

-- the traces of the greatest links are taken
abbrev pub invariant-loop-following : goal.invariant-loop-following
invariant-loop-following l = IsGathering l.domain l.fn.bridge_traces.items l.left.items (length l.domain.links - l.following) (reverse l.links.items)
