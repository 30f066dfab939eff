-- What a summary says about a script over its streams.
use Rattle.std.specs.Prelude.{ℕ, ◌≡◌, ◌+◌, ◌≤◌, ◌&&◌, Bool, Contains, List, [], ◌∷◌, Ok, Option, Some, count_by, filter, length}
use Rattle.std.specs.List.{list_any}
use Rattle.cqf_model.specs.declared.frames.Offered.{Offered}
use Rattle.cqf_model.specs.declared.limits.Limits.{Limits}
use Rattle.cqf_model.specs.declared.topology.Hop.{Hop}
use Rattle.cqf_model.specs.declared.topology.Row.{Row}
use Rattle.cqf_model.specs.Book.{Contents}
use Rattle.cqf_model.specs.Domain.{Domain, is_text}
use Rattle.cqf_model.specs.History.{Asked}
use Rattle.cqf_model.specs.Limits.{most_cycles}
use Rattle.cqf_model.specs.Run.{Run}
use Rattle.cqf_model.specs.Shift.{IsCovered}
use Rattle.cqf_model.specs.Policing.{numbered}
use Rattle.cqf_laws_history.specs.StateLaws.{granted_row}
use Rattle.cqf_laws_timing.specs.Latency.{least_of}
use Rattle.cqf_topology.specs.DomainText.{IsDomain}
use Rattle.cqf_topology.specs.PlannedText.{PlannedText}
use Rattle.cqf_program_scenario.specs.Books.{IsBookOfScenario}
use Rattle.cqf_program_scenario.specs.Closing.{MayBeRun}
use Rattle.cqf_program_scenario.specs.Scenario.{Scenario}
use Rattle.cqf_program_plans.specs.EndNames.{name_of_end}
use Rattle.cqf_program_plans.specs.Latency.Input.{asked_in}
use Rattle.cqf_program_plans.specs.Latency.Text.{listeners_of}
use Rattle.cqf_program_runs.specs.declared.deliveries.delivery.Delivery.{Delivery}
use Rattle.cqf_program_runs.specs.declared.deliveries.delivery.Fate.{Fate}
use Rattle.cqf_program_runs.specs.Check.Checked.{is_delivered, is_under_way}
use Rattle.cqf_program_runs.specs.Deliveries.{fate_of}
use Rattle.cqf_program_runs.specs.Deliveries.ArrivalLaws.{written_of_frame}
use Rattle.cqf_program_runs.specs.Deliveries.PlannedScenario.{planned_scenario, run_of_scenario}
use Rattle.cqf_program_summary.specs.declared.summary.fares.Listener.{Listener}
use Rattle.cqf_program_summary.specs.declared.summary.fares.ListenerPath.{ListenerPath}
use Rattle.cqf_program_summary.specs.declared.summary.tallies.LatencySummary.{LatencySummary}
use Rattle.cqf_program_summary.specs.Summary.{Fare, name_of_listener, offers_within, summary_of}
use Rattle.cqf_program_summary.specs.Summary.Tallies.{is_dropped, is_late, reaches}
use Rattle.cqf_program_summary.specs.Summary.Written.{written_streams}

-- a script over streams that was read within limits, and its one-thread book
pub record IsReadRun (limits : Limits) (cycles : ℕ) (input : List ℕ) (s : Scenario) (streams : List PlannedText) (book : Contents) : Type 0 where
  pub short : cycles ≤ most_cycles
  pub read : planned_scenario limits cycles input ≡ Ok (s, streams)
  pub domain : IsDomain s.domain
  pub may : MayBeRun cycles s
  pub is_book : IsBookOfScenario cycles s book

-- a listener's path, and the stream with that path, are a summary's
abbrev pub IsRowOf : ℕ → Scenario → List PlannedText → Contents → Fare → ListenerPath → Type 0
IsRowOf cycles s streams book fare path =
    Contains (summary_of (run_of_scenario cycles s) streams book).fares fare × Contains fare.paths path

-- the offers that a row counts are as many as the delivered, late, dropped and under-way ones at its listener together
abbrev pub RowsAddUp : Type 0
RowsAddUp =
    (limits : Limits) (cycles : ℕ) (input : List ℕ) (s : Scenario) (streams : List PlannedText) (book : Contents) (fare : Fare) (path : ListenerPath) →
    IsReadRun limits cycles input s streams book → IsRowOf cycles s streams book fare path →
    fare.offered ≡ path.tally.delivered + path.tally.late + fare.dropped + path.tally.under_way

-- the times that frames took to the listener of a row are no less than the least that `latency` has for the last link of their path, and no
-- more than the row's bound
pub record AreWithinBounds (d : Domain) (streams : List Asked) (fare : Fare) (path : ListenerPath) (taken : LatencySummary) : Type 0 where
  pub asked : Asked
  pub reported : Contains (written_streams streams) asked
  pub stream : asked.name ≡ fare.name
  pub hop : Hop
  pub among : Contains (listeners_of d (granted_row d 0 0 asked)) hop
  pub listener : Listener
  pub to : path.to ≡ Some listener
  pub named : listener.name ≡ name_of_end d hop.link
  pub least : least_of d hop.link hop.hop_number ≤ taken.least
  pub most : taken.most ≤ listener.bound

abbrev pub LatenciesAreBounded : Type 0
LatenciesAreBounded =
    (limits : Limits) (cycles : ℕ) (input : List ℕ) (s : Scenario) (streams : List PlannedText) (book : Contents) (fare : Fare) (path : ListenerPath)
    (taken : LatencySummary) →
    IsReadRun limits cycles input s streams book → IsRowOf cycles s streams book fare path → path.tally.taken ≡ Some taken →
    AreWithinBounds s.domain (asked_in streams) fare path taken

-- the offers that a row counts: those of its stream in the cycles that are run
abbrev pub offers_of_row : Run → Fare → List Offered
offers_of_row run fare =
    filter (λ (x : Offered). is_text x.offer.stream fare.name) (offers_within run.domain (length run.tables) (numbered run.offers))

-- whether the frame of an offer has a delivery to this listener with such a fate; and whether it is dropped
abbrev pub ends_there : Run → List PlannedText → Contents → Option Listener → (Fate → Bool) → Offered → Bool
ends_there run streams book to is x =
    list_any (λ (y : Delivery). reaches (name_of_listener to) y.passage && is (fate_of y)) (written_of_frame run streams book x.frame)

abbrev pub ends_dropped : Run → List PlannedText → Contents → Offered → Bool
ends_dropped run streams book x = list_any (λ (y : Delivery). is_dropped (fate_of y)) (written_of_frame run streams book x.frame)

-- each number of a row is the number of its offers that end that way, and each of its offers ends in exactly one of the four ways
pub record CountsEachOnce (run : Run) (streams : List PlannedText) (book : Contents) (fare : Fare) (path : ListenerPath) : Type 0 where
  pub offered : fare.offered ≡ length (offers_of_row run fare)
  pub delivered : path.tally.delivered ≡ count_by (ends_there run streams book path.to is_delivered) (offers_of_row run fare)
  pub late : path.tally.late ≡ count_by (ends_there run streams book path.to is_late) (offers_of_row run fare)
  pub dropped : fare.dropped ≡ count_by (ends_dropped run streams book) (offers_of_row run fare)
  pub under_way : path.tally.under_way ≡ count_by (ends_there run streams book path.to is_under_way) (offers_of_row run fare)
  pub once : (x : Offered) → Contains (offers_of_row run fare) x →
      count_by (λ (ends : Bool). ends)
      (ends_there run streams book path.to is_delivered x ∷ ends_there run streams book path.to is_late x ∷ ends_dropped run streams book x
      ∷ ends_there run streams book path.to is_under_way x ∷ [])
      ≡ 1

-- this holds of each row, in every such run
abbrev pub EachOfferCountsOnce : Type 0
EachOfferCountsOnce =
    (limits : Limits) (cycles : ℕ) (input : List ℕ) (s : Scenario) (streams : List PlannedText) (book : Contents) (fare : Fare) (path : ListenerPath) →
    IsReadRun limits cycles input s streams book → IsRowOf cycles s streams book fare path →
    CountsEachOnce (run_of_scenario cycles s) streams book fare path

-- a row of a summary for a stream's listener
pub record HasRowFor (cycles : ℕ) (s : Scenario) (streams : List PlannedText) (book : Contents) (stream listener : List ℕ) : Type 0 where
  pub fare : Fare
  pub path : ListenerPath
  pub is_row : IsRowOf cycles s streams book fare path
  pub of_stream : fare.name ≡ stream
  pub to_listener : name_of_listener path.to ≡ Some listener

-- each listener to which a covered offer goes has its row
abbrev pub EachListenerHasARow : Type 0
EachListenerHasARow =
    (limits : Limits) (cycles : ℕ) (input : List ℕ) (s : Scenario) (streams : List PlannedText) (book : Contents) (x : Offered) (row : Row) (hop : Hop) →
    IsReadRun limits cycles input s streams book → IsCovered (run_of_scenario cycles s) x row → Contains (listeners_of s.domain row) hop →
    HasRowFor cycles s streams book x.offer.stream (name_of_end s.domain hop.link)
