use Rattle.std.proofs.Common.{◌∙◌, IfSome, subst}
use Rattle.cqf_model.specs.Domain.{Domain}
use Rattle.cqf_admission.specs.Tables.{AreAlongLinks, CycleTable}
use Rattle.cqf_refused_values.proofs.plans.first_table.Goals as goal

-- the admission is of the plan's domain
pub returns : goal.returns
returns c =
    subst (λ (d : Domain). IfSome c.sealed.result (λ (table : CycleTable). AreAlongLinks d table.rows))
    (c.in_ok-admission.ensures.domain ∙ c.domain.ensures.value) c.sealed.ensures
