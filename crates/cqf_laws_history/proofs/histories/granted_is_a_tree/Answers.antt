use Rattle.cqf_laws_history.proofs.FewLinks.{trees_have_few_links}
use Rattle.cqf_laws_history.proofs.Granted.{branches_of_tree, granted_fits_a_row, granted_is_a_tree}
use Rattle.cqf_laws_history.proofs.histories.granted_is_a_tree.Goals as goal

pub returns-clause-tree : goal.returns-clause-tree
returns-clause-tree c = granted_is_a_tree

pub returns-clause-branches : goal.returns-clause-branches
returns-clause-branches c = branches_of_tree

pub returns-clause-few : goal.returns-clause-few
returns-clause-few c = trees_have_few_links

pub returns-clause-fits : goal.returns-clause-fits
returns-clause-fits c = granted_fits_a_row
