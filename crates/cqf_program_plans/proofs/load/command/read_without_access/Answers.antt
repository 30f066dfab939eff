use Rattle.std.proofs.Common.{All, arith, subst, sym}
use Rattle.cqf_program_plans.proofs.LoadSteps.{without_is}
use Rattle.cqf_program_plans.specs.Load.Access.{TakesLittle}
use Rattle.cqf_program_plans.proofs.load.command.read_without_access.Goals as goal

pub returns-clause-ok : goal.returns-clause-ok
returns-clause-ok c =
    without_is c.args.domain c.args.document c.new-access.result.items c.new-handed.result.items c.in_ok-requests.requests.items c.new-access.ensures.items
    c.new-handed.ensures.items c.in_ok-requests.ensures.ok

pub returns-clause-little : goal.returns-clause-little
returns-clause-little c = subst (All TakesLittle) (sym c.new-access.ensures.items) (λ k d below. absurd (omega (arith, below)))
