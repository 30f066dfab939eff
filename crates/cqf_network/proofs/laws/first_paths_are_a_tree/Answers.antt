use Rattle.cqf_network.proofs.PartLemmas.{ends_once, first_is_one, first_paths_part}
use Rattle.cqf_network.proofs.laws.first_paths_are_a_tree.Goals as goal

pub returns-clause-one : goal.returns-clause-one
returns-clause-one c = first_is_one

pub returns-clause-no_loop : goal.returns-clause-no_loop
returns-clause-no_loop c = ends_once

pub returns-clause-part : goal.returns-clause-part
returns-clause-part c = first_paths_part
