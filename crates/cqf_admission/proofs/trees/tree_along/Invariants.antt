-- The hops of the branches so far have been added, and the nodes that are left are those of the others.
use Rattle.std.proofs.Common.{fold, take, drop, []}
use Rattle.std.specs.List.{flat_map}
use Rattle.cqf_model.specs.History.{hops_along}
use Rattle.cqf_admission.specs.Branches.{AreAsFarAsRoom, AreNodes, branches_of, keep_link}
use Rattle.cqf_admission.proofs.trees.tree_along.Given as goal

abbrev pub invariant-loop-branch : goal.invariant-loop-branch
invariant-loop-branch l =
    AreAsFarAsRoom l.tree.items (fold keep_link [] (flat_map (hops_along l.domain) (branches_of (take l.branch-index l.paths))))
    × AreNodes l.domain (flat_map (λ b. b) (branches_of (drop l.branch-index l.paths))) l.rest
