use Rattle.std.proofs.Common.{◌+◌, ◌-◌}
use Rattle.cqf_access.specs.Bounding.{link_of}
use Rattle.cqf_access.proofs.Least.{IsBelow}
use Rattle.cqf_access.proofs.bounds.access_bound.Given as goal

-- the time is at most any bound
abbrev pub invariant-loop-time : goal.invariant-loop-time
invariant-loop-time l = IsBelow (link_of l.rate l.other) l.promises l.most.0 l.time

-- what is left up to `most`
abbrev pub decreases-loop-time : goal.decreases-loop-time
decreases-loop-time l = l.most.0 + 1 - l.time
