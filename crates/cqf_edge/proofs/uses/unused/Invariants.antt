use Rattle.std.proofs.Common.{[], take}
use Rattle.cqf_edge.specs.Uses.{AreUses}
use Rattle.cqf_edge.proofs.uses.unused.Given as goal

abbrev pub invariant-loop-link : goal.invariant-loop-link
invariant-loop-link l = AreUses (take l.link-index l.links) [] l.uses.items
