-- The number of names in the branches so far.
use Rattle.std.proofs.Common.{◌≡◌, take}
use Rattle.cqf_admission.specs.Branches.{branches_of, indices_of}
use Rattle.cqf_admission.proofs.branches.count_indices.Given as goal

abbrev pub invariant-loop-branch : goal.invariant-loop-branch
invariant-loop-branch l = l.count ≡ indices_of (branches_of (take l.branch-index l.paths))
