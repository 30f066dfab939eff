use Rattle.cqf_laws_timing.proofs.Listeners.{branches_end, hop_numbers_are_bridges}
use Rattle.cqf_laws_timing.proofs.latencies.branches_end_at_listeners.Goals as goal

pub returns-clause-ends : goal.returns-clause-ends
returns-clause-ends c = branches_end c.granted_is_a_tree.ensures.branches

pub returns-clause-hop_numbers : goal.returns-clause-hop_numbers
returns-clause-hop_numbers c = hop_numbers_are_bridges c.granted_is_a_tree.ensures.tree c.granted_is_a_tree.ensures.branches
