use Rattle.std.proofs.Common.{◌∙◌, ap, length}
use Rattle.cqf_edge.proofs.flows.edge_flows.Goals as goal

pub edges_with-requires-clause-each : goal.edges_with-requires-clause-each
edges_with-requires-clause-each c = c.in_ok-handed.ensures.each ∙ ap length c.as_slice-found.ensures.value
