-- Counts, step by step.
use Rattle.std.specs.Prelude.{ℕ, ◌≡◌, ◌+◌, ◌*◌, ◌≤◌, ◌^◌, ⊤, All, AllPairs, Bool, true, false, List, [], ◌∷◌, Option, Some, None, count_by, fold, if◌then◌else◌, map, max, min, position, slice_get, suc, zero}
use Rattle.cqf_units.specs.declared.timing.Nanos.{Nanos}
use Rattle.cqf_model.specs.Domain.{is_text}
use Rattle.cqf_program_runs.specs.declared.deliveries.delivery.Delivery.{Delivery}
use Rattle.cqf_program_runs.specs.declared.deliveries.delivery.Fate.{Fate}
use Rattle.cqf_program_runs.specs.declared.deliveries.delivery.Fate.TheVariants as fate
use Rattle.cqf_program_runs.specs.declared.deliveries.delivery.Journey.{Journey}
use Rattle.cqf_program_runs.specs.declared.deliveries.delivery.Passage.{Passage}
use Rattle.cqf_program_runs.specs.declared.deliveries.delivery.Passage.TheVariants as passage
use Rattle.cqf_program_runs.specs.Deliveries.{fate_of, latency_of}
use Rattle.cqf_program_summary.specs.declared.summary.fares.Listener.{Listener}
use Rattle.cqf_program_summary.specs.declared.summary.fares.Others.{Others}
use Rattle.cqf_program_summary.specs.declared.summary.fares.ListenerPath.{ListenerPath}
use Rattle.cqf_program_summary.specs.declared.summary.tallies.LatencySummary.{LatencySummary}
use Rattle.cqf_program_summary.specs.declared.summary.tallies.Tally.{Tally}
use Rattle.cqf_program_summary.specs.Summary.{Fare, Summary}
use Rattle.cqf_program_summary.specs.Summary.Tallies.{is_dropped}

-- one latency more
abbrev pub taken_more : ℕ → Option LatencySummary → LatencySummary
taken_more n None = record { least = n; most = n; total = n; following = 0 }
taken_more n (Some t) = record { least = min t.least n; most = max t.most n; total = t.total + n; following = t.following + 1 }

abbrev pub taken_with : ℕ → Option Nanos → Option LatencySummary → Option LatencySummary
taken_with at None taken = taken
taken_with at (Some whole) taken = Some (taken_more (latency_of at whole) taken)

-- one frame more that goes to the listener
abbrev pub counted : Fate → Tally → Tally
counted fate.Delivered t = record t { delivered = t.delivered + 1 }
counted fate.Late t = record t { late = t.late + 1 }
counted fate.UnderWay t = record t { under_way = t.under_way + 1 }
counted (fate.Dropped reason) t = t

abbrev pub tally_with : Fate → ℕ → Option Nanos → Tally → Tally
tally_with ending at whole t = let now = counted ending t in record now { taken = taken_with at whole now.taken }

-- whether a path leads to the listener with a name
abbrev pub leads_to : List ℕ → Option Listener → Bool
leads_to name None = false
leads_to name (Some listener) = is_text name listener.name

-- a path with one frame more that is on a journey
abbrev pub path_with : Fate → ℕ → Journey → ListenerPath → ListenerPath
path_with ending at journey path =
    if leads_to journey.listener path.to then record path { tally = tally_with ending at journey.whole path.tally } else path

abbrev pub paths_with : Fate → ℕ → Passage → List ListenerPath → List ListenerPath
paths_with ending at (passage.Dropped reason) paths = paths
paths_with ending at (passage.Goes journey) paths = map (path_with ending at journey) paths

-- the index of a path to the listener with a name: the expected one, if it leads there; otherwise the first
abbrev pub leads_there : List ℕ → Option ListenerPath → Bool
leads_there name None = false
leads_there name (Some path) = leads_to name path.to

abbrev pub index_by : List ListenerPath → ℕ → List ℕ → Option ℕ
index_by paths expected name =
    if leads_there name (slice_get paths expected) then Some expected else position (λ (path : ListenerPath). leads_to name path.to) paths

-- the summary of a stream with one delivery more of its frames, with those of an offer, and with an offer
abbrev pub fare_with : Fare → Delivery → Fare
fare_with fare x = record fare {
  dropped = fare.dropped + (if is_dropped (fate_of x) then 1 else 0);
  paths = paths_with (fate_of x) x.at.0 x.passage fare.paths;
}

abbrev pub fare_with_each : List Delivery → Fare → Fare
fare_with_each here fare = fold fare_with fare here

abbrev pub fare_with_offer : List Delivery → Fare → Fare
fare_with_offer here fare = fare_with_each here (record fare { offered = fare.offered + 1 })

abbrev pub others_with : List Delivery → Others → Others
others_with here others = record {
  offered = others.offered + 1;
  dropped = others.dropped + count_by (λ (x : Delivery). is_dropped (fate_of x)) here;
}

-- a list with the element at an index changed
abbrev pub changed_at : {A : Type 0} → (A → A) → ℕ → List A → List A
changed_at change index [] = []
changed_at change zero (x ∷ xs) = change x ∷ xs
changed_at change (suc index) (x ∷ xs) = x ∷ changed_at change index xs

-- a summary with one offer more of a name: it is added to the stream with that name, or else to the other names
abbrev pub summary_at : List Delivery → Option ℕ → Summary → Summary
summary_at here None summary = record summary { others = others_with here summary.others }
summary_at here (Some index) summary = record summary { fares = changed_at (fare_with_offer here) index summary.fares }

abbrev pub summary_with : List ℕ → List Delivery → Summary → Summary
summary_with name here summary = summary_at here (position (λ (fare : Fare). is_text fare.name name) summary.fares) summary

-- no two paths lead to one listener
abbrev pub AreApart : List ListenerPath → Type 0
AreApart paths = AllPairs (λ (a b : ListenerPath). (name : List ℕ) → leads_to name a.to ≡ true → leads_to name b.to ≡ true → ⊥) paths

-- no count exceeds what `many` deliveries allow, each of them with a latency below 2 ^ 64 ns
abbrev pub TakenWithin : ℕ → Option LatencySummary → Type 0
TakenWithin many None = ⊤
TakenWithin many (Some t) = (t.following + 1 ≤ many) × (t.total ≤ many * 2 ^ 64)

pub record TallyWithin (many : ℕ) (t : Tally) : Type 0 where
  pub delivered : t.delivered ≤ many
  pub late : t.late ≤ many
  pub under_way : t.under_way ≤ many
  pub taken : TakenWithin many t.taken

abbrev pub PathsWithin : ℕ → List ListenerPath → Type 0
PathsWithin many paths = All (λ (path : ListenerPath). TallyWithin many path.tally) paths

pub record FareWithin (many : ℕ) (fare : Fare) : Type 0 where
  pub offered : fare.offered ≤ many
  pub dropped : fare.dropped ≤ many
  pub paths : PathsWithin many fare.paths

pub record OthersWithin (many : ℕ) (others : Others) : Type 0 where
  pub offered : others.offered ≤ many
  pub dropped : others.dropped ≤ many

pub record SummaryWithin (many : ℕ) (summary : Summary) : Type 0 where
  pub fares : All (FareWithin many) summary.fares
  pub others : OthersWithin many summary.others
