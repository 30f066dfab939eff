use Rattle.std.proofs.Common.{take}
use Rattle.cqf_edge.specs.Uses.{AreUses}
use Rattle.cqf_edge.proofs.uses.uses_of.Given as goal

abbrev pub invariant-loop-one : goal.invariant-loop-one
invariant-loop-one l = AreUses l.links (take l.one-index l.all) l.uses.items
