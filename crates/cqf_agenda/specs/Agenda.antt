-- A bridge's offers and background frames, cycle by cycle.
use Rattle.std.specs.Prelude.{ℕ, ◌≡◌, ◌==◌, ◌<◌, ◌≤◌, List, filter}
use Rattle.std.specs.List.Sorted.{IsNonDecreasingBy}
use Rattle.cqf_units.specs.Timing.{cycle_at}
use Rattle.cqf_model.specs.declared.frames.Backed.{Backed}
use Rattle.cqf_model.specs.declared.frames.Background.{Background}
use Rattle.cqf_model.specs.declared.frames.Offer.{Offer}
use Rattle.cqf_model.specs.declared.frames.Offered.{Offered}
use Rattle.cqf_model.specs.Domain.{Domain}
use Rattle.cqf_laws_cycle.specs.Gathered.{backed_for, offered_for}
use Rattle.cqf_model.specs.Limits.{longest_cycle}

-- the instant of an offer, and that of a background frame
abbrev pub instant_of_offer : Offered → ℕ
instant_of_offer x = x.offer.at.0

abbrev pub instant_of_backed : Backed → ℕ
instant_of_backed x = x.background.at.0

-- a bridge's offers and background frames, each by instant, then index
pub record AgendaOf : Type 0 where
  pub cycle_time : ℕ
  pub offers : List Offered
  pub background : List Backed

-- both lists are in order of instant, and the cycle time is within its bounds
pub record ComesInCycle (a : AgendaOf) : Type 0 where
  pub some : 0 < a.cycle_time
  pub short : a.cycle_time ≤ longest_cycle
  pub offers : IsNonDecreasingBy instant_of_offer a.offers
  pub background : IsNonDecreasingBy instant_of_backed a.background

-- the offers and the background frames of a cycle
abbrev pub offers_listed_at : AgendaOf → ℕ → List Offered
offers_listed_at a cycle = filter (λ (x : Offered). cycle_at a.cycle_time x.offer.at.0 == cycle) a.offers

abbrev pub background_at : AgendaOf → ℕ → List Backed
background_at a cycle = filter (λ (x : Backed). cycle_at a.cycle_time x.background.at.0 == cycle) a.background

-- in each cycle the agenda has the run's offers and background frames for the bridge
pub record IsAgendaOf (d : Domain) (offers : List Offer) (background : List Background) (bridge : ℕ) (a : AgendaOf) : Type 0 where
  pub offers_are : (cycle : ℕ) → offers_listed_at a cycle ≡ offered_for d offers bridge cycle
  pub background_are : (cycle : ℕ) → background_at a cycle ≡ backed_for d background bridge cycle
