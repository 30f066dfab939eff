use Rattle.std.proofs.Common.{map}
use Rattle.cqf_traffic.specs.FlowsText.{FlowText, flow_text}
use Rattle.cqf_edge.specs.EdgeValues.{edges_text}
use Rattle.cqf_output.specs.Stops.{IsRefused}
use Rattle.cqf_program_runs.specs.Deliveries.PlannedScenario.{planned_of_part}
use Rattle.cqf_program_runs.proofs.Passing.{passed-on}
use Rattle.cqf_program_runs.proofs.Planned.{access-Ok, access-refused}
use Rattle.cqf_program_runs.proofs.deliveries.reading.read_edge_streams.Goals as goal

pub returns-in-Ok-clause-ok : goal.returns-in-Ok-clause-ok
returns-in-Ok-clause-ok c =
    let edge = c.in_ok-edge.edge in
    record {
      streams = map (λ (flow : FlowText). flow.0) (map flow_text edge.flows.items);
      holds = access-Ok c.args.network.now c.args.document (edges_text edge) c.requires c.in_ok-edge.ensures.ok;
      planned = record { asked = c.in-Ok.ensures.requests; ends = c.in-Ok.ensures.deadlines };
    }

pub returns-in_err-edge-clause-err : goal.returns-in_err-edge-clause-err
returns-in_err-edge-clause-err c =
    passed-on c.from_residual.result c.in_err-edge.field-0.0 (IsRefused (planned_of_part c.args.network.now c.args.document))
    c.from_residual.ensures.1
    (access-refused c.args.network.now c.args.document c.in_err-edge.field-0.0 c.requires c.in_err-edge.ensures.err)
