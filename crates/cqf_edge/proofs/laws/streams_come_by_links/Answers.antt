use Rattle.cqf_edge.proofs.Came.{edges_are_by_indices}
use Rattle.cqf_edge.proofs.ComeByLinks.{others_begin_at_edges, streams_come_by_links}
use Rattle.cqf_edge.proofs.laws.streams_come_by_links.Goals as goal

pub returns-clause-come : goal.returns-clause-come
returns-clause-come c = streams_come_by_links

pub returns-clause-others : goal.returns-clause-others
returns-clause-others c = others_begin_at_edges

pub returns-clause-indices : goal.returns-clause-indices
returns-clause-indices c = edges_are_by_indices
