use Rattle.std.proofs.Common.{◌≤◌, ◌∙◌, ℕ, List, ap, subst, sym}
use Rattle.cqf_model.specs.declared.topology.Row.{Row}
use Rattle.cqf_admission.specs.Costs.{most_cost}
use Rattle.cqf_program_plans.proofs.Listed.{most_bounded, most_listed}
use Rattle.cqf_program_plans.proofs.load.listing.LoadListing.cost_on.Goals as goal

pub returns-clause-cost : goal.returns-clause-cost
returns-clause-cost c =
    let kept = c.self.inside in
    c.most_of.ensures
    ∙ most_listed kept.names.keys kept.rows.items kept.held kept.crossing.items c.args.link c.self.invariant c.requires
    ∙ ap (λ (rows : List Row). most_cost rows c.args.link) c.self.view_is

pub returns-clause-bounded : goal.returns-clause-bounded
returns-clause-bounded c =
    let kept = c.self.inside in
    subst (λ (n : ℕ). n ≤ 32768000000)
    (sym (c.most_of.ensures
    ∙ most_listed kept.names.keys kept.rows.items kept.held kept.crossing.items c.args.link c.self.invariant c.requires))
    (most_bounded kept.names.keys kept.rows.items kept.held kept.crossing.items c.args.link c.self.invariant c.requires)
