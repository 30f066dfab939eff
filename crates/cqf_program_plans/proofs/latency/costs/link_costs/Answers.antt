use Rattle.std.proofs.Common.{◌≡◌, ◌<◌, ◌++◌, ◌∷◌, [], ◌∙◌, ℕ, List, add-one, ap, ap₂, arith, length, sym}
use Rattle.cqf_lists.specs.Lists.{each_below}
use Rattle.cqf_model.specs.Table.{link_cost}
use Rattle.cqf_admission.specs.Costs.{most_cost}
use Rattle.cqf_admission.proofs.ActiveCycleLemmas.{most_of_costs}
use Rattle.cqf_program_plans.proofs.CostsByActiveCycle.{held_little, most_little, none_more}
use Rattle.cqf_program_plans.proofs.latency.costs.link_costs.Goals as goal

pub prove-unreachable-requires : goal.prove-unreachable-requires
prove-unreachable-requires c =
    let d = c.args.domain.now in
    let rows = c.args.rows.now in
    let link = c.loop-link.link in
    let low : link < length d.links = omega (arith, c.loop-link-test.true, c.links-link-end.ensures) in
    none_more c.most_of-most.result 110000000 (most_cost rows link)
    (c.most_of-most.ensures ∙ most_of_costs c.in_ok-sums.sums link (link_cost rows link) (λ cycle below. c.in_ok-sums.ensures.each link cycle low))
    (most_little rows link (held_little d rows c.requires.held.0 0 c.know.ensures.accepted c.requires.held.1)) c.if-prove.true

pub loop-link-preserved : goal.loop-link-preserved
loop-link-preserved c =
    let rows = c.args.rows.now in
    let link = c.loop-link.link in
    let low : link < length c.args.domain.now.links = omega (arith, c.loop-link-test.true, c.links-link-end.ensures) in
    let most = c.most_of-most.ensures ∙ most_of_costs c.in_ok-sums.sums link (link_cost rows link) (λ cycle below. c.in_ok-sums.ensures.each link cycle low) in
    c.in_ok-push.ensures.items
    ∙ ap₂ (λ (xs : List ℕ) (n : ℕ). xs ++ n ∷ []) c.loop-link.invariant most
    ∙ sym (ap (each_below (λ (l : ℕ). most_cost rows l ∷ [])) (add-one link))

pub returns : goal.returns
returns c =
    let all : c.loop-link.link ≡ length c.args.domain.now.links = omega (arith, c.loop-link-test.false, c.links-link-end.ensures) in
    c.loop-link.invariant ∙ ap (each_below (λ (l : ℕ). most_cost c.args.rows.now l ∷ [])) all
