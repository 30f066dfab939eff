-- Counts of the deliveries to a listener.
use Rattle.std.specs.Prelude.{ℕ, ◌+◌, ◌/◌, ◌&&◌, Bool, true, false, List, [], ◌∷◌, Option, Some, None, count_by, fold, if◌then◌else◌, length, max, min, sum}
use Rattle.std.specs.List.{flat_map}
use Rattle.cqf_units.specs.declared.timing.Nanos.{Nanos}
use Rattle.cqf_program_runs.specs.declared.deliveries.delivery.Delivery.{Delivery}
use Rattle.cqf_program_runs.specs.declared.deliveries.delivery.Fate.{Fate}
use Rattle.cqf_program_runs.specs.declared.deliveries.delivery.Fate.TheVariants as fate
use Rattle.cqf_program_runs.specs.declared.deliveries.delivery.Passage.{Passage}
use Rattle.cqf_program_runs.specs.declared.deliveries.delivery.Passage.TheVariants as passage
use Rattle.cqf_program_runs.specs.Deliveries.ArrivalLaws.{goes_to}
use Rattle.cqf_program_runs.specs.Check.Checked.{is_delivered, is_under_way}
use Rattle.cqf_program_runs.specs.Deliveries.{fate_of, latency_of}
use Rattle.cqf_program_summary.specs.declared.summary.tallies.LatencySummary.{LatencySummary}
use Rattle.cqf_program_summary.specs.declared.summary.tallies.Tally.{Tally}

-- whether a frame is late; whether it is dropped
abbrev pub is_late : Fate → Bool
is_late fate.Delivered = false
is_late fate.Late = true
is_late fate.UnderWay = false
is_late (fate.Dropped reason) = false

abbrev pub is_dropped : Fate → Bool
is_dropped fate.Delivered = false
is_dropped fate.Late = false
is_dropped fate.UnderWay = false
is_dropped (fate.Dropped reason) = true

-- whether a frame goes to a listener with this name, if there is one
abbrev pub reaches : Option (List ℕ) → Passage → Bool
reaches None what = false
reaches (Some listener) what = goes_to listener what

-- how many of the deliveries go there and have such a fate
abbrev pub count_to : Option (List ℕ) → (Fate → Bool) → List Delivery → ℕ
count_to listener is deliveries = count_by (λ (x : Delivery). reaches listener x.passage && is (fate_of x)) deliveries

-- how long a frame takes, if it is whole there
abbrev pub latency_by : ℕ → Option Nanos → List ℕ
latency_by at None = []
latency_by at (Some whole) = latency_of at whole ∷ []

abbrev pub latency_on : ℕ → Passage → List ℕ
latency_on at (passage.Dropped reason) = []
latency_on at (passage.Goes journey) = latency_by at journey.whole

-- the latencies of the deliveries that go there
abbrev pub latencies_to : Option (List ℕ) → List Delivery → List ℕ
latencies_to listener deliveries = flat_map (λ (x : Delivery). if reaches listener x.passage then latency_on x.at.0 x.passage else []) deliveries

-- the least and the greatest of the latencies, their sum, and how many follow the first
abbrev pub taken_of : List ℕ → Option LatencySummary
taken_of [] = None
taken_of (first ∷ more) =
    Some (record { least = fold min first more; most = fold max first more; total = first + sum more; following = length more })

-- the mean of latencies, rounded down
abbrev pub mean_of : LatencySummary → ℕ
mean_of taken = taken.total / (taken.following + 1)

-- how the deliveries to a listener end, and how long those took that arrived, late ones too
abbrev pub tally_to : Option (List ℕ) → List Delivery → Tally
tally_to listener deliveries = record {
  delivered = count_to listener is_delivered deliveries;
  late = count_to listener is_late deliveries;
  under_way = count_to listener is_under_way deliveries;
  taken = taken_of (latencies_to listener deliveries);
}

-- the tally of no deliveries
abbrev pub no_tally : Tally
no_tally = record { delivered = 0; late = 0; under_way = 0; taken = None }
