use Rattle.std.proofs.Common.{◌∙◌, ◌++◌, ◌∷◌, [], ap, subst, sym, take}
use Rattle.std.specs.List.{All}
use Rattle.std.proofs.lemmas.List.{take_all, take_more}
use Rattle.std.proofs.lemmas.List.Elements.{All-push}
use Rattle.cqf_model.specs.declared.frames.Offer.{Offer}
use Rattle.cqf_model.specs.Run.{IsOffer}
use Rattle.cqf_test_fixtures.proofs.given.are_offers.Goals as goal

-- one more may be given to a run
pub loop-offer-preserved : goal.loop-offer-preserved
loop-offer-preserved c =
    let offers = c.args.offers.now in
    let k = c.loop-offer.offer-index in
    let offer = c.offer-item.result in
    subst (All (IsOffer c.args.domain.now)) (ap (λ (x : Offer). take k offers ++ x ∷ []) c.offer-item.is
    ∙ sym (take_more offers k offer c.loop-offer-test.true))
    (All-push (IsOffer c.args.domain.now) (take k offers) offer c.loop-offer.invariant (c.is_offer.ensures c.if-not-is_offer.false))

-- at the end all may be given to a run
pub returns : goal.returns
returns c = λ _. subst (All (IsOffer c.args.domain.now)) (take_all c.loop-offer.offer-index c.args.offers.now c.loop-offer-test.false) c.loop-offer.invariant
