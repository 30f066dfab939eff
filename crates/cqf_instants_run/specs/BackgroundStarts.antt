-- The starts of a history's run, which determine the starts of its background frames.
use Rattle.std.specs.Prelude.{ℕ, ◌≤◌, List}
use Rattle.cqf_model.specs.declared.frames.Background.{Background}
use Rattle.cqf_model.specs.declared.frames.Offer.{Offer}
use Rattle.cqf_model.specs.declared.frames.Started.{Started}
use Rattle.cqf_model.specs.Domain.{Domain}
use Rattle.cqf_model.specs.History.{IsLegalHistory, Recorded, seals}
use Rattle.cqf_model.specs.Run.{AreBackground, AreOffers}
use Rattle.cqf_instants_run.specs.Parts.{AreStartsOfHistory}

-- there are a legal history of the domain that closes at least `cycles` cycles, offers, and some background frames, so that these are the
-- starts of streams' frames
pub record SomeStarts (d : Domain) (cycles : ℕ) (starts : List Started) : Type 0 where
  pub entries : List Recorded
  pub offers : List Offer
  pub background : List Background
  pub legal : IsLegalHistory d entries
  pub sealed : cycles ≤ seals entries
  pub offered : AreOffers d offers
  pub following : AreBackground d background
  pub are : AreStartsOfHistory d entries offers background cycles starts
