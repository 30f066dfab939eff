use Rattle.std.proofs.Common.{◌<◌, ◌≤◌, ◌*◌, ◌^◌, ◌∙◌, ℕ, subst, sym}
use Rattle.cqf_program_summary.proofs.Listed.{hop_low, most_bounded, most_written}
use Rattle.cqf_program_summary.proofs.summary.fares.cost_to.Goals as goal

pub most_at-requires-clause-inside : goal.most_at-requires-clause-inside
most_at-requires-clause-inside c =
    subst (λ (n : ℕ). c.args.hop.now.link < n) (sym c.requires.all) (hop_low c.args.row.now c.args.hop.now c.requires.summable c.requires.of_tree)

pub most_at-requires-clause-good : goal.most_at-requires-clause-good
most_at-requires-clause-good c = c.requires.summable.paced.divides

pub returns-clause-cost : goal.returns-clause-cost
returns-clause-cost c = c.most_at.ensures ∙ most_written c.args.costs.now c.args.row.now c.args.hop.now c.requires.summable c.requires.of_tree

pub returns-clause-bounded : goal.returns-clause-bounded
returns-clause-bounded c =
    let row = c.args.row.now in
    let hop = c.args.hop.now in
    subst (λ (n : ℕ). n ≤ 2 ^ 29 * 2000000)
    (sym (c.most_at.ensures ∙ most_written c.args.costs.now row hop c.requires.summable c.requires.of_tree))
    (most_bounded c.args.costs.now row hop.link c.requires.bounded (hop_low row hop c.requires.summable c.requires.of_tree))
