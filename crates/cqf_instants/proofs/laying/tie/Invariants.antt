-- The branches up to here are tied.
use Rattle.cqf_instants.specs.LaidTrees.{AreTied}
use Rattle.cqf_instants.proofs.laying.tie.Given as goal

abbrev pub invariant-loop-index : goal.invariant-loop-index
invariant-loop-index l = AreTied l.initial.branches.items l.branches.items l.from l.index l.groups
