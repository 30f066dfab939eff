use Rattle.cqf_program_plans.proofs.PlanFits.{admitted_is_listed, admitted_within, within_admitted}
use Rattle.cqf_program_plans.proofs.HeldMost.{none_holds_more}
use Rattle.cqf_program_plans.proofs.load.laws.plan_fits.Goals as goal

pub returns-clause-fits : goal.returns-clause-fits
returns-clause-fits c d streams rows h =
    let laws = c.state_follows_history.ensures in (
      λ found l active_cycle inside. admitted_within laws.goes_on laws.counted laws.granted laws.room laws.held d streams rows h found l active_cycle,
      within_admitted laws.goes_on laws.counted laws.granted laws.room laws.held d streams rows h,
    )

pub returns-clause-listed : goal.returns-clause-listed
returns-clause-listed c d streams entries h =
    let laws = c.state_follows_history.ensures in
    admitted_is_listed laws.goes_on laws.counted laws.granted laws.room laws.held d streams entries h

pub returns-clause-most : goal.returns-clause-most
returns-clause-most c = none_holds_more c.lists_bound_costs.ensures.tables
