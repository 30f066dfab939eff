use Rattle.cqf_laws_history.proofs.StreamRows.{costs_nothing, costs_once, gates_where_links_leave, goes_on_by_tree, goes_on_where_leaves, greatest_hop_number, one_gate}
use Rattle.cqf_laws_history.proofs.definitions.trees_say_where_streams_go.Goals as goal

pub returns-clause-goes_on : goal.returns-clause-goes_on
returns-clause-goes_on c = goes_on_by_tree

pub returns-clause-bridges : goal.returns-clause-bridges
returns-clause-bridges c = goes_on_where_leaves

pub returns-clause-gates : goal.returns-clause-gates
returns-clause-gates c = gates_where_links_leave

pub returns-clause-one_gate : goal.returns-clause-one_gate
returns-clause-one_gate c = one_gate

pub returns-clause-greatest_hop_number : goal.returns-clause-greatest_hop_number
returns-clause-greatest_hop_number c = greatest_hop_number

pub returns-clause-costs : goal.returns-clause-costs
returns-clause-costs c = costs_once

pub returns-clause-costs_nothing : goal.returns-clause-costs_nothing
returns-clause-costs_nothing c = costs_nothing
