use Rattle.cqf_program_plans.proofs.EdgeGates.{edge_gates}
use Rattle.cqf_program_plans.proofs.compile.gated.edge_gates_are_at_the_edge.Goals as goal

pub returns : goal.returns
returns c = edge_gates c.written_gates_are_the_networks.ensures.ingresses c.trees_say_where_streams_go.ensures.gates
