use Rattle.std.proofs.Common.{ℕ, ◌∙◌, ap, arith}
use Rattle.cqf_edge.specs.EdgeValues.{edges_text}
use Rattle.cqf_program_plans.proofs.LoadSteps.{loaded_is}
use Rattle.cqf_program_plans.specs.Load.Access.{access_loads}
use Rattle.cqf_program_plans.proofs.load.command.read_with_access.Goals as goal

pub access_loads-requires : goal.access_loads-requires
access_loads-requires c = omega (arith, c.cycle_time.ensures.value, c.cycle_time.ensures.accepted.cycle_most)

pub returns-clause-ok : goal.returns-clause-ok
returns-clause-ok c =
    let network = c.args.network.now in
    let edge = edges_text c.in_ok-edge.edge in
    loaded_is network c.args.document c.args.domain edge c.in-Ok.access.items c.in_ok-requests.requests.items c.requires c.in_ok-edge.ensures.ok
    (c.in-Ok.ensures.value ∙ ap (λ (n : ℕ). access_loads network n edge.handed edge.flows) c.cycle_time.ensures.value)
    c.in_ok-requests.ensures.ok
