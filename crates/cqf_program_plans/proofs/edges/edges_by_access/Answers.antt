use Rattle.cqf_program_plans.proofs.edges.edges_by_access.Goals as goal

pub edge_flows-requires : goal.edge_flows-requires
edge_flows-requires c = c.read_streams_are_written.ensures.flows _ _ c.in-Ok.ensures
