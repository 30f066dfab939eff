use Rattle.std.proofs.Common.{◌∙◌}
use Rattle.cqf_admission.proofs.Guards.{guard_in_cycle, own_guard}
use Rattle.cqf_admission.proofs.budgets.guard_on.Goals as goal

pub returns-clause-value : goal.returns-clause-value
returns-clause-value c =
    own_guard c.args.domain.now c.args.link c.link-ends.result c.guard-guard.result.0 c.from.result c.link-ends.ensures c.guard-guard.ensures
    (c.from.ensures ∙ c.guard_by-own.ensures)

pub returns-clause-some : goal.returns-clause-some
returns-clause-some c =
    (guard_in_cycle c.args.domain.now c.args.link c.link-ends.result c.guard-guard.result.0 c.from.result c.know.ensures.accepted c.link-ends.ensures
    c.guard-guard.ensures (c.from.ensures ∙ c.guard_by-own.ensures)).0

pub returns-clause-within : goal.returns-clause-within
returns-clause-within c =
    (guard_in_cycle c.args.domain.now c.args.link c.link-ends.result c.guard-guard.result.0 c.from.result c.know.ensures.accepted c.link-ends.ensures
    c.guard-guard.ensures (c.from.ensures ∙ c.guard_by-own.ensures)).1
