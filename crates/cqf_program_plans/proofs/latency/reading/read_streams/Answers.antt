use Rattle.cqf_edge.specs.EdgeValues.{edges_text}
use Rattle.cqf_program_plans.proofs.LoadSteps.{plan_is}
use Rattle.cqf_program_plans.proofs.latency.reading.read_streams.Goals as goal

pub returns-clause-ok : goal.returns-clause-ok
returns-clause-ok c =
    plan_is c.args.network.now c.args.document c.args.domain (edges_text c.in_ok-edge.edge) c.in_ok-requests.requests.items c.requires c.in_ok-edge.ensures.ok
    c.in_ok-requests.ensures.ok
