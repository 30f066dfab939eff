use Rattle.cqf_laws_history.proofs.Pairs.{links_bound_hops, pairs_are_tested, pairs_have_their_beginnings, refused_as_no_tree, trees_are_made_of_pairs}
use Rattle.cqf_laws_history.proofs.histories.branches_make_a_tree_by_pairs.Goals as goal

pub returns-clause-tested : goal.returns-clause-tested
returns-clause-tested c = pairs_are_tested

pub returns-clause-beginnings : goal.returns-clause-beginnings
returns-clause-beginnings c = pairs_have_their_beginnings

pub returns-clause-refused : goal.returns-clause-refused
returns-clause-refused c = refused_as_no_tree

pub returns-clause-made : goal.returns-clause-made
returns-clause-made c = trees_are_made_of_pairs

pub returns-clause-hops : goal.returns-clause-hops
returns-clause-hops c = links_bound_hops
