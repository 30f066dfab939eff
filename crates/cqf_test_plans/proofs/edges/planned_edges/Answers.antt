use Rattle.cqf_test_plans.proofs.edges.planned_edges.Goals as goal

pub edge_streams-requires : goal.edge_streams-requires
edge_streams-requires c = c.read_streams_are_written.ensures.streams _ _ c.in-Ok.ensures
