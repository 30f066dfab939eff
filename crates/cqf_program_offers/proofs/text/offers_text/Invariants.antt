use Rattle.std.proofs.Common.{◌≡◌, ◌++◌, codes, take}
use Rattle.std.specs.List.{flat_map}
use Rattle.cqf_program_offers.specs.OffersText.{offer_line}
use Rattle.cqf_program_offers.proofs.text.offers_text.Given as goal

abbrev pub invariant-loop-offer : goal.invariant-loop-offer
invariant-loop-offer l = l.text.items ≡ codes "at,bridge,stream,octets\n" ++ flat_map (offer_line l.domain) (take l.offer-index l.offers)
