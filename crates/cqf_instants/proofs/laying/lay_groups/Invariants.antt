-- The groups of the hops so far are appended.
use Rattle.cqf_instants.specs.LaidTrees.{AreAfter}
use Rattle.cqf_instants.proofs.laying.lay_groups.Given as goal

abbrev pub invariant-loop-hop : goal.invariant-loop-hop
invariant-loop-hop l = AreAfter l.tree l.initial.branches.items l.branches.items l.hop-index l.groups.items
