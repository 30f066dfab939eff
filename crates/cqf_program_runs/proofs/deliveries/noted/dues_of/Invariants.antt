-- The deadlines of the offers so far.
use Rattle.std.proofs.Common.{◌≡◌, map, take}
use Rattle.cqf_model.specs.declared.frames.Offer.{Offer}
use Rattle.cqf_program_runs.specs.Deliveries.Deadlines.{deadline_in}
use Rattle.cqf_program_runs.proofs.deliveries.noted.dues_of.Given as goal

abbrev pub invariant-loop-offer : goal.invariant-loop-offer
invariant-loop-offer l = l.dues.items ≡ map (λ (offer : Offer). deadline_in l.deadlines offer.stream) (take l.offer-index l.offers)
