-- The hops up to this index have been added.
use Rattle.cqf_admission.specs.Branches.{branch_of}
use Rattle.cqf_admission.proofs.TreeLemmas.{AreAdded}
use Rattle.cqf_admission.proofs.trees.add_branch.Given as goal

abbrev pub invariant-loop-index : goal.invariant-loop-index
invariant-loop-index l = AreAdded l.domain (branch_of l.branch) l.fn.tree.items l.tree.items l.index l.before
