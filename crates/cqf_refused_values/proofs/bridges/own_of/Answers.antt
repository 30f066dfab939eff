use Rattle.std.proofs.Common.{◌∙◌, ℕ, ap, subst}
use Rattle.cqf_model.specs.Domain.{Domain}
use Rattle.cqf_model.specs.Run.{AreOffers}
use Rattle.cqf_laws_cycle.specs.Gathered.{offered_for}
use Rattle.cqf_refused_values.proofs.bridges.own_of.Goals as goal

-- the offers are those of the bridge's domain
pub returns-in-Ok-clause-offers : goal.returns-in-Ok-clause-offers
returns-in-Ok-clause-offers c =
    subst (λ (d : Domain). AreOffers d c.args.offers.now) c.domain.ensures.value (c.are_offers.ensures c.if-not-are_offers.false)

-- and those that were found are the bridge's
pub returns-in-Ok-clause-own : goal.returns-in-Ok-clause-own
returns-in-Ok-clause-own c =
    let b = c.args.bridge.now in
    let offers = c.args.offers.now in
    c.in-Ok.ensures
    ∙ ap (λ (d : Domain). offered_for d offers c.number.result c.args.cycle.0) c.domain-2.ensures.value
    ∙ ap (λ (n : ℕ). offered_for b.domain offers n c.args.cycle.0) c.number.ensures
