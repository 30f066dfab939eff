-- The input of a run.
use Rattle.std.specs.Prelude.{ℕ, ◌*◌, ◌<◌, ◌≤◌, All, List, length}
use Rattle.cqf_model.specs.declared.frames.Background.{Background}
use Rattle.cqf_model.specs.declared.frames.Offer.{Offer}
use Rattle.cqf_model.specs.declared.topology.Row.{Row}
use Rattle.cqf_model.specs.Domain.{Domain}
use Rattle.cqf_model.specs.Limits.{end_of_offers}

-- the input of a run: a domain, the table of each cycle, the offers at its bridges, and the background frames of its links
pub record Run : Type 0 where
  pub domain : Domain
  pub tables : List (List Row)
  pub offers : List Offer
  pub background : List Background

-- the end of a run, which has as many cycles as there are tables
abbrev pub end_of_run : Run → ℕ
end_of_run run = length run.tables * run.domain.cycle_time

-- an offer that a run may be given: at a bridge of the domain, with a size that Ethernet allows (IEEE 802.3), early enough
pub record IsOffer (d : Domain) (offer : Offer) : Type 0 where
  pub at_bridge : offer.bridge < length d.bridges
  pub least : 64 ≤ offer.octets
  pub most : offer.octets ≤ 1522
  pub early : offer.at.0 < end_of_offers

-- each of the offers may be given to a run. Their readers limit how many there are
abbrev pub AreOffers : Domain → List Offer → Type 0
AreOffers d offers = All (IsOffer d) offers

-- a background frame that a run may be given: for a link of the domain, with a class that no stream has and a size that Ethernet allows
-- (IEEE 802.3), early enough
pub record IsBackground (d : Domain) (frame : Background) : Type 0 where
  pub on_link : frame.link < length d.links
  pub class_most : frame.class ≤ 5
  pub least : 64 ≤ frame.octets
  pub most : frame.octets ≤ 1522
  pub early : frame.at.0 < end_of_offers

-- each of the background frames may be given to a run
abbrev pub AreBackground : Domain → List Background → Type 0
AreBackground d background = All (IsBackground d) background
