-- A run that is over, followed offer by offer while a pass returns its starts.
use Rattle.std.specs.Prelude.{ℕ, ◌≡◌, ◌+◌, ◌≤◌, ◌<◌, All, List, Option, Some, length, slice_get}
use Rattle.cqf_units.specs.Timing.{cycle_at}
use Rattle.cqf_units.specs.declared.timing.Nanos.{Nanos}
use Rattle.cqf_instants.specs.Meaning.{Given as GivenRun}
use Rattle.cqf_instants.specs.Progress.{IsBasisOf}
use Rattle.cqf_instants.specs.declared.basis.Basis.{Basis}
use Rattle.cqf_model.specs.declared.frames.Offer.{Offer}
use Rattle.cqf_model.specs.declared.frames.Started.{Started}
use Rattle.cqf_laws_coverage.specs.Judged.{StandInOrder}
use Rattle.cqf_program_runs.specs.declared.deliveries.noted.Noted.{Noted}
use Rattle.cqf_program_runs.specs.declared.deliveries.reading.PlannedGiven.{PlannedGiven}
use Rattle.cqf_program_runs.specs.declared.deliveries.delivery.Delivery.{Delivery}
use Rattle.cqf_program_runs.specs.declared.deliveries.made.CompletedRun.{CompletedRun}
use Rattle.cqf_program_runs.specs.declared.deliveries.under_way.UnderWay.{UnderWay}
use Rattle.cqf_program_runs.specs.Deliveries.{whole_on}
use Rattle.cqf_program_runs.specs.Deliveries.Reading.{AreDeliveriesOf}
use Rattle.cqf_program_runs.specs.Deliveries.Text.{text_of_deliveries}
use Rattle.cqf_program_runs.specs.Deliveries.Ending.{IsOver, Over, deliveries_over, over_by, over_of}
use Rattle.cqf_program_runs.specs.Deliveries.UnderWay.{AreSlots, IsInTime, IsWideFor, slots_of, starts_written}

-- a start of an offer's frame is of a cycle after the offer's, and at most `hop_number` cycles after it
pub record IsAfter (cycle_time hop_number : ℕ) (offers : List Offer) (s : Started) : Type 0 where
  pub later : (index : ℕ) (offer : Offer) → slice_get offers index ≡ Some offer → s.frame ≡ index + 1 →
      cycle_at cycle_time offer.at.0 < s.cycle.0
  pub soon : (index : ℕ) (offer : Offer) → slice_get offers index ≡ Some offer → s.frame ≡ index + 1 →
      s.cycle.0 ≤ cycle_at cycle_time offer.at.0 + hop_number

-- frames are whole by the starts of a run to which the pass belongs; each start is in time and follows its offer
pub record IsBookAfter (over : Over) (hop_number : ℕ) (basis : Basis) (given : GivenRun) : Type 0 where
  pub is : IsBasisOf given basis
  pub whole : over.whole ≡ whole_on over.domain (starts_written given basis.cycles)
  pub in_time : All (IsInTime over.domain) (starts_written given basis.cycles)
  pub following : All (IsAfter over.domain.cycle_time hop_number over.offers) (starts_written given basis.cycles)

-- the run is followed from the offer at index `index` on: the frames under way from there on are kept, and the pass has
-- returned no start of a frame after these
pub record IsFollowed (over : Over) (index : ℕ) (under_way : UnderWay) : Type 0 where
  pub given : GivenRun
  pub width : ℕ
  pub is_over : IsOver over
  pub ordered : StandInOrder over.offers
  pub book : IsBookAfter over under_way.hop_number under_way.pass.basis given
  pub counted : under_way.reported ≡ under_way.pass.reported
  pub within : under_way.reported ≤ under_way.pass.basis.cycles
  pub some : 0 < length under_way.slots.items
  pub enough : IsWideFor over.domain.cycle_time under_way.hop_number over.offers (length under_way.slots.items)
  pub slots : AreSlots over.domain over.rows over.edge_verdicts (starts_written given under_way.pass.reported) index width (slots_of under_way.slots.items)
  pub early : (later : ℕ) (offer : Offer) → index ≤ later → slice_get over.offers later ≡ Some offer →
      under_way.reported ≤ cycle_at over.domain.cycle_time offer.at.0 + under_way.hop_number + 1

-- borrowed data can be followed in this way
pub record CanFollow (ended : CompletedRun) (index : ℕ) (under_way : UnderWay) : Type 0 where
  pub whole : ℕ → ℕ → Option Nanos
  pub is : IsFollowed (over_of ended whole) index under_way

-- what is noted of a scenario can be followed from the first offer on, and yields its deliveries
pub record IsNotedOf (cycles : ℕ) (planned : PlannedGiven) (noted : Noted) (under_way : UnderWay) : Type 0 where
  pub whole : ℕ → ℕ → Option Nanos
  pub followed : IsFollowed (over_by planned cycles noted whole) 0 under_way
  pub are : AreDeliveriesOf cycles planned (deliveries_over (over_by planned cycles noted whole))

-- the data from which the output of deliveries is written
pub record Ending : Type 0 where
  pub planned : PlannedGiven
  pub cycles : ℕ
  pub noted : Noted
  pub under_way : UnderWay

-- the output can be written
pub record CanBeWritten (ending : Ending) : Type 0 where
  pub whole : ℕ → ℕ → Option Nanos
  pub followed : IsFollowed (over_by ending.planned ending.cycles ending.noted whole) 0 ending.under_way

-- the text of an output: that of the deliveries by what is followed
pub record AreDeliveriesWritten (ending : Ending) (text : List ℕ) : Type 0 where
  pub whole : ℕ → ℕ → Option Nanos
  pub followed : IsFollowed (over_by ending.planned ending.cycles ending.noted whole) 0 ending.under_way
  pub is : text ≡ text_of_deliveries (deliveries_over (over_by ending.planned ending.cycles ending.noted whole))

-- an output writes the deliveries of what was read
abbrev pub WritesDeliveriesOf : ℕ → PlannedGiven → Ending → Type 0
WritesDeliveriesOf cycles planned ending = (text : List ℕ) × AreDeliveriesWritten ending text
    × (deliveries : List Delivery) × AreDeliveriesOf cycles planned deliveries × (text ≡ text_of_deliveries deliveries)
