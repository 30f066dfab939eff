-- Which deliveries have arrived.
use Rattle.std.specs.Prelude.{ℕ, ◌≡◌, ◌∷◌, ◌<◌, ◌==◌, Bool, true, false, Some, Contains, List, [], count_by, filter, length}
use Rattle.cqf_model.specs.declared.frames.Offered.{Offered}
use Rattle.cqf_model.specs.declared.frames.Reason.{Reason}
use Rattle.cqf_model.specs.declared.frames.Started.{Started}
use Rattle.cqf_model.specs.declared.topology.Hop.{Hop}
use Rattle.cqf_model.specs.declared.topology.Row.{Row}
use Rattle.cqf_model.specs.Book.{Contents}
use Rattle.cqf_model.specs.Domain.{end_of, is_text}
use Rattle.cqf_model.specs.Run.{Run}
use Rattle.cqf_model.specs.Shift.{InShift, IsCovered, IsUncovered, offer_cycle}
use Rattle.cqf_model.specs.Table.{AreOrderly}
use Rattle.cqf_model.specs.Policing.{numbered}
use Rattle.cqf_model.specs.Promise.{SaysTheShift}
use Rattle.cqf_topology.specs.DomainText.{IsDomain}
use Rattle.cqf_topology.specs.PlannedText.{PlannedText}
use Rattle.cqf_program_plans.specs.EndNames.{name_of_end}
use Rattle.cqf_program_plans.specs.Latency.Text.{is_station, listeners_of}
use Rattle.cqf_program_runs.specs.declared.deliveries.delivery.Passage.{Passage}
use Rattle.cqf_program_runs.specs.declared.deliveries.delivery.Passage.TheVariants as passage
use Rattle.cqf_program_runs.specs.declared.deliveries.delivery.Delivery.{Delivery}
use Rattle.cqf_program_runs.specs.declared.deliveries.delivery.Fate.{Fate}
use Rattle.cqf_program_runs.specs.declared.deliveries.delivery.Fate.TheVariants as fate
use Rattle.cqf_program_runs.specs.Deliveries.{deadline_named, deliveries_of, deliveries_to, delivery_of, fate_of, start_on}
use Rattle.cqf_program_runs.specs.Deliveries.{whole_instant, whole_on}

-- the fates of frames that are whole at their listener, in time or late
abbrev pub has_come : Fate → Bool
has_come fate.Delivered = true
has_come fate.Late = true
has_come fate.UnderWay = false
has_come (fate.Dropped reason) = false

-- a delivery is of a covered frame that leaves on the link of a hop to a listener, as the shift requires. It is whole
-- there by its start in the book
pub record IsArrivalOfOffer (run : Run) (streams : List PlannedText) (book : Contents) (delivery : Delivery) : Type 0 where
  pub x : Offered
  pub row : Row
  pub hop : Hop
  pub start : Started
  pub covered : IsCovered run x row
  pub among : Contains (listeners_of run.domain row) hop
  pub starts : start_on book.starts x.frame hop.link ≡ Some start
  pub in_shift : InShift run (length run.tables) x.frame hop.link start.cycle.0
  pub is : delivery ≡ delivery_of run.domain x (passage.Goes (record {
    listener = name_of_end run.domain hop.link;
    whole = Some (whole_instant run.domain start);
    deadline = deadline_named streams x.offer.stream;
  }))

-- a frame has arrived at the listener at the end of a link
pub record HasArrived (run : Run) (streams : List PlannedText) (book : Contents) (frame link : ℕ) : Type 0 where
  pub delivery : Delivery
  pub listed : Contains (deliveries_of run streams book) delivery
  pub come : has_come (fate_of delivery) ≡ true
  pub arrival : IsArrivalOfOffer run streams book delivery
  pub of_frame : arrival.x.frame ≡ frame
  pub on_link : arrival.hop.link ≡ link

-- the deliveries that have arrived are exactly the shift's frames on links to stations
pub record AreTheShift (run : Run) (streams : List PlannedText) (book : Contents) : Type 0 where
  pub only : (delivery : Delivery) → Contains (deliveries_of run streams book) delivery → has_come (fate_of delivery) ≡ true →
      IsArrivalOfOffer run streams book delivery
  pub each : (frame link cycle : ℕ) → InShift run (length run.tables) frame link cycle → is_station (end_of run.domain link) ≡ true →
      HasArrived run streams book frame link

-- if a book says the shift, its deliveries that have arrived are exactly the shift's
abbrev pub ArrivalsAreTheShift : Type 0
ArrivalsAreTheShift = (run : Run) (streams : List PlannedText) (book : Contents) → SaysTheShift run book → AreTheShift run streams book

-- the deliveries of a frame, in their order
abbrev pub written_of_frame : Run → List PlannedText → Contents → ℕ → List Delivery
written_of_frame run streams book frame = filter (λ (delivery : Delivery). delivery.frame == frame) (deliveries_of run streams book)

-- the deliveries of the frame of an offer whose cycle is run. If a row covers the offer, they are one delivery to the
-- end of each hop of the row that leads to a listener, in the order of its tree. Otherwise they are its one drop, for
-- the first reason that applies
pub record IsWrittenOnce (run : Run) (streams : List PlannedText) (book : Contents) (x : Offered) : Type 0 where
  pub as_covered : (row : Row) → IsCovered run x row → written_of_frame run streams book x.frame
      ≡ deliveries_to run.domain (whole_on run.domain book.starts x.frame) (deadline_named streams x.offer.stream) x row
  pub as_dropped : (reason : Reason) → IsUncovered run x reason → written_of_frame run streams book x.frame
      ≡ delivery_of run.domain x (passage.Dropped reason) ∷ []

abbrev pub EachIsWrittenOnce : Type 0
EachIsWrittenOnce = (run : Run) (streams : List PlannedText) (book : Contents) (x : Offered) → SaysTheShift run book → Contains (numbered run.offers) x →
    offer_cycle run.domain x < length run.tables → IsWrittenOnce run streams book x

-- whether a frame goes to the listener with a name
abbrev pub goes_to : List ℕ → Passage → Bool
goes_to listener (passage.Dropped reason) = false
goes_to listener (passage.Goes journey) = is_text journey.listener listener

-- how many of a frame's deliveries go to the listener with a name
abbrev pub written_to : Run → List PlannedText → Contents → ℕ → List ℕ → ℕ
written_to run streams book frame listener =
    count_by (λ (delivery : Delivery). goes_to listener delivery.passage) (written_of_frame run streams book frame)

-- exactly one delivery goes to each listener of the row, by its name: the names of a domain differ, and no tree reaches
-- a node twice
abbrev pub EachListenerIsWrittenOnce : Type 0
EachListenerIsWrittenOnce = (run : Run) (streams : List PlannedText) (book : Contents) (x : Offered) (row : Row) (hop : Hop) → IsDomain run.domain →
    AreOrderly run.domain run.tables → SaysTheShift run book → Contains (numbered run.offers) x → offer_cycle run.domain x < length run.tables →
    IsCovered run x row → Contains (listeners_of run.domain row) hop →
    written_to run streams book x.frame (name_of_end run.domain hop.link) ≡ 1
