-- The hops so far are the same.
use Rattle.std.proofs.Common.{◌≡◌, take}
use Rattle.cqf_desk.proofs.same.are_same_hops.Given as goal

abbrev pub invariant-loop-index : goal.invariant-loop-index
invariant-loop-index l = take l.index l.these ≡ take l.index l.those
