-- The data from which the deliveries of a run that is over are derived.
use Rattle.std.specs.Prelude.{ℕ, ◌≡◌, ◌≤◌, List, Option, length, map}
use Rattle.cqf_units.specs.declared.timing.Nanos.{Nanos}
use Rattle.cqf_instants_run.specs.Columns.{verdict_at}
use Rattle.cqf_instants_run.specs.declared.judged.EdgeVerdict.{EdgeVerdict}
use Rattle.cqf_model.specs.declared.frames.Offer.{Offer}
use Rattle.cqf_model.specs.declared.frames.Offered.{Offered}
use Rattle.cqf_model.specs.declared.topology.Row.{Row}
use Rattle.cqf_model.specs.Domain.{Domain}
use Rattle.cqf_model.specs.Limits.{most_offers}
use Rattle.cqf_model.specs.Run.{AreOffers}
use Rattle.cqf_model.specs.Policing.{numbered}
use Rattle.cqf_program_runs.specs.declared.deliveries.noted.Noted.{Noted}
use Rattle.cqf_program_runs.specs.declared.deliveries.reading.PlannedGiven.{PlannedGiven}
use Rattle.cqf_program_runs.specs.declared.deliveries.delivery.Delivery.{Delivery}
use Rattle.cqf_program_runs.specs.declared.deliveries.made.CompletedRun.{CompletedRun}
use Rattle.cqf_program_runs.specs.Deliveries.ByVerdict.{Known, deliveries_of_all, deliveries_within, known_by}
use Rattle.cqf_program_runs.specs.Deliveries.Deadlines.{Due, deadline_in}

-- a run that is over: its domain and cycles, its offers, the rows and the verdicts on the offers by them, the deadlines
-- of names and of each offer's frame, and when a frame is whole at the end of a link
pub record Over : Type 0 where
  pub domain : Domain
  pub cycles : ℕ
  pub offers : List Offer
  pub rows : List Row
  pub edge_verdicts : List EdgeVerdict
  pub due : Due
  pub dues : List (Option ℕ)
  pub whole : ℕ → ℕ → Option Nanos

-- the deliveries of an offer, and of a list of offers
abbrev pub known_over : Over → Known
known_over over = known_by (deadline_in over.due) over.whole

abbrev pub deliveries_at : Over → Offered → List Delivery
deliveries_at over x = deliveries_within over.domain over.cycles (known_over over) (verdict_at over.domain over.rows over.edge_verdicts) x

abbrev pub deliveries_among : Over → List Offered → List Delivery
deliveries_among over offers = deliveries_of_all over.domain over.cycles (known_over over) (verdict_at over.domain over.rows over.edge_verdicts) offers

-- the deliveries of all offers
abbrev pub deliveries_over : Over → List Delivery
deliveries_over over = deliveries_among over (numbered over.offers)

-- the offers are those of its domain and at most `most_offers`, and each has its verdict and its deadline
pub record IsOver (over : Over) : Type 0 where
  pub offers : AreOffers over.domain over.offers
  pub few : length over.offers ≤ most_offers
  pub judged : length over.edge_verdicts ≡ length over.offers
  pub due : over.dues ≡ map (λ (offer : Offer). deadline_in over.due offer.stream) over.offers

-- the deadlines by name, in borrowed data
abbrev pub due_of : CompletedRun → Due
due_of ended = record { requests = ended.requests.now; deadlines = ended.deadlines.now }

-- the run, from borrowed and from owned data, with the given instants at which frames are whole
abbrev pub over_of : CompletedRun → (ℕ → ℕ → Option Nanos) → Over
over_of ended whole = record {
  domain = ended.domain.now;
  cycles = ended.cycles;
  offers = ended.offers.now;
  rows = ended.rows.now;
  edge_verdicts = ended.edge_verdicts.now;
  due = due_of ended;
  dues = ended.dues.now;
  whole = whole;
}

abbrev pub over_by : PlannedGiven → ℕ → Noted → (ℕ → ℕ → Option Nanos) → Over
over_by planned cycles noted whole = record {
  domain = planned.given.domain;
  cycles = cycles;
  offers = planned.given.offers.items;
  rows = noted.rows.items;
  edge_verdicts = noted.edge_verdicts.items;
  due = record { requests = planned.given.requests.items; deadlines = planned.deadlines.items };
  dues = noted.dues.items;
  whole = whole;
}
