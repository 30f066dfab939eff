use Rattle.cqf_program_plans.proofs.CompileLemmas.{plan_of_network-is}
use Rattle.cqf_program_plans.proofs.compile.command.plan_of_network.Goals as goal

pub returns-clause-ok : goal.returns-clause-ok
returns-clause-ok c =
    plan_of_network-is c.args.network.now c.args.document c.in_ok-domain.domain c.in_ok-requests.requests.items c.in_ok-domain.ensures.ok
    c.in_ok-requests.ensures.ok
