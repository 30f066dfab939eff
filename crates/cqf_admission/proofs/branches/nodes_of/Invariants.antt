-- The names of the branches so far have been looked up.
use Rattle.std.proofs.Common.{◌≡◌, fold, take, []}
use Rattle.std.specs.List.{flat_map}
use Rattle.cqf_admission.specs.Branches.{branches_of, with_node}
use Rattle.cqf_admission.proofs.branches.nodes_of.Given as goal

abbrev pub invariant-loop-branch : goal.invariant-loop-branch
invariant-loop-branch l = l.nodes.items ≡ fold (with_node l.domain) [] (flat_map (λ b. b) (branches_of (take l.branch-index l.paths)))
