use Rattle.std.proofs.Common.{◌∙◌, sym}
use Rattle.cqf_admission.specs.Branches.{branches_of}
use Rattle.cqf_admission.proofs.BranchLemmas.{few_in_all}
use Rattle.cqf_admission.proofs.trees.find_tree.Goals as goal

pub tree_along-tree-requires-clause-few : goal.tree_along-tree-requires-clause-few
tree_along-tree-requires-clause-few c =
    few_in_all c.args.domain.now (branches_of c.args.paths.now) (sym c.broken_index_of.ensures ∙ c.in_default-broken_index_of.is)
