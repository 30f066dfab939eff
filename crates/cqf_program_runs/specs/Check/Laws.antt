-- When a check reports that all is well.
use Rattle.std.specs.Prelude.{ℕ, ◌≡◌, ◌≢◌, ◌<◌, false, List, Some, Ok, Contains, length}
use Rattle.cqf_model.specs.declared.frames.Offered.{Offered}
use Rattle.cqf_model.specs.declared.frames.Started.{Started}
use Rattle.cqf_model.specs.declared.history.Refused.{Refused}
use Rattle.cqf_model.specs.declared.history.Reply.TheVariants.{Refused as RefusedFor}
use Rattle.cqf_model.specs.declared.topology.Hop.{Hop}
use Rattle.cqf_model.specs.declared.topology.Row.{Row}
use Rattle.cqf_model.specs.Book.{Contents}
use Rattle.cqf_model.specs.History.{Recorded, is_seal, streams_of}
use Rattle.cqf_model.specs.Run.{Run}
use Rattle.cqf_model.specs.Shift.{IsCovered, offer_cycle}
use Rattle.cqf_model.specs.Policing.{numbered}
use Rattle.cqf_model.specs.Promise.{SaysTheShift}
use Rattle.cqf_topology.specs.PlannedText.{PlannedText}
use Rattle.cqf_program_plans.specs.Latency.Text.{listeners_of}
use Rattle.cqf_program_runs.specs.declared.deliveries.delivery.Fate.TheVariants as fate
use Rattle.cqf_program_runs.specs.Check.Checked.{checked_run, counts_of, run_offers, well_line}
use Rattle.cqf_program_runs.specs.Deliveries.{arrival_at_listener, deadline_named, deliveries_of, start_on, whole_instant}

-- a frame starts on the link of a hop to a listener, and is whole there within its deadline, if it has one
pub record ComesInTime (run : Run) (streams : List PlannedText) (book : Contents) (x : Offered) (hop : Hop) : Type 0 where
  pub start : Started
  pub starts : start_on book.starts x.frame hop.link ≡ Some start
  pub in_time : arrival_at_listener x.offer.at.0 (whole_instant run.domain start) (deadline_named streams x.offer.stream) ≡ fate.Delivered

-- an offer is of a cycle that is run, a row covers it, and its frame arrives in time at each listener of that row
pub record GoesWell (run : Run) (streams : List PlannedText) (book : Contents) (x : Offered) : Type 0 where
  pub within : offer_cycle run.domain x < length run.tables
  pub row : Row
  pub covered : IsCovered run x row
  pub each : (hop : Hop) → Contains (listeners_of run.domain row) hop → ComesInTime run streams book x hop

-- each offer of the run goes well
abbrev pub AllOffersGoWell : Run → List PlannedText → Contents → Type 0
AllOffersGoWell run streams book = (x : Offered) → Contains (numbered run.offers) x → GoesWell run streams book x

-- no call of a history is refused
abbrev pub NoneIsRefused : List Recorded → Type 0
NoneIsRefused entries = (e : Recorded) (refused : Refused) → Contains entries e → is_seal e.act ≡ false → e.reply ≢ RefusedFor refused

-- no call is refused, all offers go well, and there is an offer
pub record AllGoWell (entries : List Recorded) (run : Run) (streams : List PlannedText) (book : Contents) : Type 0 where
  pub some : 0 < length run.offers
  pub calls : NoneIsRefused entries
  pub offers : AllOffersGoWell run streams book

-- the line that says that all is well
abbrev pub line_of_well : List Row → Run → List PlannedText → Contents → List ℕ
line_of_well rows run streams book = well_line (counts_of (run_offers rows run) (deliveries_of run streams book))

-- a check reports that all is well if and only if all goes well
pub record IsWellExactly (entries : List Recorded) (run : Run) (streams : List PlannedText) (book : Contents) : Type 0 where
  pub only : (line : List ℕ) → checked_run entries run streams book ≡ Ok line → AllGoWell entries run streams book
  pub where_well : AllGoWell entries run streams book → checked_run entries run streams book
      ≡ Ok (line_of_well (streams_of run.domain entries) run streams book)

-- if a book says the shift, a check reports that all is well if and only if all goes well
abbrev pub CheckIsWellExactly : Type 0
CheckIsWellExactly = (entries : List Recorded) (run : Run) (streams : List PlannedText) (book : Contents) → SaysTheShift run book →
    IsWellExactly entries run streams book
