-- What becomes of the frames of streams on the paths to their listeners in a run, by its book.
pub mod Output
pub mod Text
pub mod Written
pub mod Tallies
pub mod Listing
pub mod Counting
pub mod Gathering
use Rattle.std.specs.Prelude.{ℕ, ◌&&◌, List, [], ◌∷◌, Option, Some, None, count_by, filter, length, map, nat_lt, option_map}
use Rattle.cqf_model.specs.declared.frames.Offered.{Offered}
use Rattle.cqf_model.specs.declared.topology.Hop.{Hop}
use Rattle.cqf_model.specs.declared.topology.Row.{Row}
use Rattle.cqf_model.specs.Book.{Contents}
use Rattle.cqf_model.specs.Domain.{Domain, is_text}
use Rattle.cqf_model.specs.History.{Asked}
use Rattle.cqf_model.specs.Run.{Run}
use Rattle.cqf_model.specs.Shift.{offer_cycle}
use Rattle.cqf_model.specs.Policing.{numbered}
use Rattle.cqf_topology.specs.PlannedText.{PlannedText}
use Rattle.cqf_laws_timing.specs.Latency.{most_of}
use Rattle.cqf_program_plans.specs.EndNames.{name_of_end}
use Rattle.cqf_program_plans.specs.Latency.Input.{asked_in}
use Rattle.cqf_program_plans.specs.Latency.Text.{listeners_of}
use Rattle.cqf_program_runs.specs.declared.deliveries.delivery.Delivery.{Delivery}
use Rattle.cqf_program_runs.specs.Deliveries.{deadline_named, deliveries_of, fate_of}
use Rattle.cqf_program_summary.specs.declared.summary.fares.Listener.{Listener}
use Rattle.cqf_program_summary.specs.declared.summary.fares.Others.{Others}
use Rattle.cqf_program_summary.specs.declared.summary.fares.ListenerPath.{ListenerPath}
use Rattle.cqf_program_summary.specs.Summary.Tallies.{is_dropped, tally_to}
use Rattle.cqf_program_summary.specs.Summary.Written.{is_other, row_of_stream, written_cost, written_streams}

-- the summary of a stream: its name and its deadline, how many offers claim the name, how many of these are dropped,
-- and the paths to its listeners. A stream whose octets, pace or path are refused has one path without a listener
pub record Fare : Type 0 where
  pub name : List ℕ
  pub deadline : Option ℕ
  pub offered : ℕ
  pub dropped : ℕ
  pub paths : List ListenerPath

-- a summary: that of each stream, and how many offers claim other names
pub record Summary : Type 0 where
  pub fares : List Fare
  pub others : Others

-- the listener at the end of a hop, with the longest time that a frame can take to it, if streams cost `cost` of each
-- link
abbrev pub listener_to : Domain → (ℕ → ℕ) → Hop → Listener
listener_to d cost hop = record { name = name_of_end d hop.link; bound = most_of d hop.link hop.hop_number (cost hop.link) }

-- the path to an optional listener, by the deliveries of a stream's frames
abbrev pub name_of_listener : Option Listener → Option (List ℕ)
name_of_listener to = option_map (λ (listener : Listener). listener.name) to

abbrev pub path_to : List Delivery → Option Listener → ListenerPath
path_to deliveries to = record { to = to; tally = tally_to (name_of_listener to) deliveries }

-- the listeners of a row, in the order of its tree
abbrev pub listeners_by : Domain → (ℕ → ℕ) → Option Row → List (Option Listener)
listeners_by d cost None = None ∷ []
listeners_by d cost (Some row) = map (λ (hop : Hop). Some (listener_to d cost hop)) (listeners_of d row)

abbrev pub paths_of : Domain → (ℕ → ℕ) → List Delivery → Option Row → List ListenerPath
paths_of d cost deliveries row = map (path_to deliveries) (listeners_by d cost row)

-- how many of the offers claim a name, and their deliveries
abbrev pub offers_named : List ℕ → List Offered → ℕ
offers_named name offers = count_by (λ (x : Offered). is_text x.offer.stream name) offers

abbrev pub deliveries_named : List ℕ → List Delivery → List Delivery
deliveries_named name deliveries = filter (λ (x : Delivery). is_text x.stream name) deliveries

-- the summary of a stream, by its number of offers and the deliveries of its frames, if streams cost `cost` of each
-- link in its cycles
abbrev pub fare_by : Domain → (Asked → ℕ → ℕ) → (List ℕ → Option ℕ) → ℕ → List Delivery → Asked → Fare
fare_by d cost due offered deliveries asked = record {
  name = asked.name;
  deadline = due asked.name;
  offered = offered;
  dropped = count_by (λ (x : Delivery). is_dropped (fate_of x)) deliveries;
  paths = paths_of d (cost asked) deliveries (row_of_stream d asked);
}

abbrev pub fare_of : Domain → (Asked → ℕ → ℕ) → (List ℕ → Option ℕ) → List Offered → List Delivery → Asked → Fare
fare_of d cost due offers deliveries asked =
    fare_by d cost due (offers_named asked.name offers) (deliveries_named asked.name deliveries) asked

-- the counts of the names that none of the streams has
abbrev pub others_of : List Asked → List Offered → List Delivery → Others
others_of reported offers deliveries = record {
  offered = count_by (λ (x : Offered). is_other reported x.offer.stream) offers;
  dropped = count_by (λ (x : Delivery). is_other reported x.stream && is_dropped (fate_of x)) deliveries;
}

-- the summary of streams with these deadlines by name, by offers and their deliveries
abbrev pub summary_by : Domain → List Asked → (List ℕ → Option ℕ) → List Offered → List Delivery → Summary
summary_by d reported due offers deliveries = record {
  fares = map (fare_of d (written_cost d reported) due offers deliveries) reported;
  others = others_of reported offers deliveries;
}

-- the offers of the cycles that are run
abbrev pub offers_within : Domain → ℕ → List Offered → List Offered
offers_within d cycles offers = filter (λ (x : Offered). nat_lt (offer_cycle d x) cycles) offers

-- the summary of a run's streams, by its book
abbrev pub summary_of : Run → List PlannedText → Contents → Summary
summary_of run streams book =
    summary_by run.domain (written_streams (asked_in streams)) (deadline_named streams)
    (offers_within run.domain (length run.tables) (numbered run.offers)) (deliveries_of run streams book)
