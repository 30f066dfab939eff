use Rattle.std.specs.Prelude.{take}
use Rattle.cqf_model.specs.Run.{AreOffers}
use Rattle.cqf_test_fixtures.proofs.given.are_offers.Given as goal

-- the offers so far may be given to a run
abbrev pub invariant-loop-offer : goal.invariant-loop-offer
invariant-loop-offer l = AreOffers l.domain (take l.offer-index l.offers)
