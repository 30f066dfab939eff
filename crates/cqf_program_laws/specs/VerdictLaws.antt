-- What latencies from edge bridges, and the verdicts on them, say about deliveries. `latency` adds the times on access links (`OutputLaws`).
use Rattle.std.specs.Prelude.{ℕ, ◌≡◌, ◌≢◌, ◌≤◌, List, [], true, Some, Ok, Contains}
use Rattle.cqf_units.specs.declared.timing.Nanos.{Nanos}
use Rattle.cqf_model.specs.declared.frames.Background.{Background}
use Rattle.cqf_model.specs.declared.frames.Offer.{Offer}
use Rattle.cqf_model.specs.declared.limits.Limits.{Limits}
use Rattle.cqf_model.specs.Book.{Contents}
use Rattle.cqf_model.specs.Domain.{Domain}
use Rattle.cqf_model.specs.Headline.{IsAccountOf}
use Rattle.cqf_model.specs.History.{Act, IsLegalHistory, Recorded, held_in}
use Rattle.cqf_model.specs.HistoryBook.{IsBookOfHistory, run_of_history}
use Rattle.cqf_model.specs.Limits.{most_cycles}
use Rattle.cqf_model.specs.Run.{AreBackground, AreOffers}
use Rattle.cqf_topology.specs.DomainText.{IsDomain}
use Rattle.cqf_topology.specs.PlannedText.{PlannedText}
use Rattle.cqf_laws_timing.specs.Streams.{AdmitsOnly}
use Rattle.cqf_program_scenario.specs.Books.{IsBookOfScenario}
use Rattle.cqf_program_scenario.specs.Closing.{MayBeRun}
use Rattle.cqf_program_scenario.specs.Opening.{opening_history}
use Rattle.cqf_program_scenario.specs.Parting.{AreCommandsAfter}
use Rattle.cqf_program_scenario.specs.Scenario.{Scenario}
use Rattle.cqf_program_plans.specs.declared.latency.latencies.Latency.{Latency}
use Rattle.cqf_program_plans.specs.declared.latency.latencies.Verdict.TheVariants as reported
use Rattle.cqf_program_plans.specs.Compile.Output.{admitted_from}
use Rattle.cqf_program_plans.specs.Latency.Input.{asked_in, deadlines_in}
use Rattle.cqf_program_plans.specs.Latency.Text.{latencies_of, verdict_on_deadline}
use Rattle.cqf_program_runs.specs.declared.deliveries.delivery.Delivery.{Delivery}
use Rattle.cqf_program_runs.specs.declared.deliveries.delivery.Fate.TheVariants as fate
use Rattle.cqf_program_runs.specs.declared.deliveries.delivery.Journey.{Journey}
use Rattle.cqf_program_runs.specs.declared.deliveries.delivery.Passage.TheVariants as passage
use Rattle.cqf_program_runs.specs.Deliveries.ArrivalLaws.{has_come}
use Rattle.cqf_program_runs.specs.Deliveries.{deliveries_of, fate_of, latency_of}
use Rattle.cqf_program_runs.specs.Deliveries.PlannedScenario.{planned_scenario, run_of_scenario}

-- the delivery is of a frame of the latency's stream, on its path to the latency's listener
pub record IsDeliveryTo (latency : Latency) (delivery : Delivery) : Type 0 where
  pub journey : Journey
  pub goes : delivery.passage ≡ passage.Goes journey
  pub stream : delivery.stream ≡ latency.stream
  pub listener : journey.listener ≡ latency.listener

-- if its frame is whole within the run, it takes no less than the latency's least, and no more than its most. If the verdict is `in-time`,
-- the frame isn't late; if it is `late`, the frame is late once it has arrived
pub record IsAsJudged (latency : Latency) (delivery : Delivery) : Type 0 where
  pub within : (journey : Journey) (whole : Nanos) → delivery.passage ≡ passage.Goes journey → journey.whole ≡ Some whole →
      (latency.least ≤ latency_of delivery.at.0 whole) × (latency_of delivery.at.0 whole ≤ latency.most)
  pub in_time : verdict_on_deadline latency ≡ Some reported.InTime → fate_of delivery ≢ fate.Late
  pub late : verdict_on_deadline latency ≡ Some reported.Late → has_come (fate_of delivery) ≡ true → fate_of delivery ≡ fate.Late

-- each of some deliveries to a listener of one of some latencies is so
abbrev pub AreAsJudged : List Latency → List Delivery → Type 0
AreAsJudged latencies deliveries = (latency : Latency) (delivery : Delivery) → Contains latencies latency → Contains deliveries delivery →
    IsDeliveryTo latency delivery → IsAsJudged latency delivery

-- the latencies of streams from their edge bridges, with their deadlines from there, if this is the history of their plan. If no stream enters by an
-- access link, `latency` writes these
abbrev pub printed_latencies : Domain → List Recorded → List PlannedText → List Latency
printed_latencies d plan streams = latencies_of d (held_in d plan 0) (deadlines_in streams)

-- if all streams of a plan are admitted, the deliveries in the book of each history that admits streams of the plan alone are as these
-- latencies say, with any other calls, any offers and any background frames
abbrev pub VerdictsHoldOfDeliveries : Type 0
VerdictsHoldOfDeliveries =
    (d : Domain) (streams : List PlannedText) (plan entries : List Recorded) (offers : List Offer) (background : List Background) (cycles : ℕ)
    (book : Contents) → IsDomain d → admitted_from d [] 1 (asked_in streams) ≡ Ok plan → IsLegalHistory d entries →
    AdmitsOnly (asked_in streams) entries → AreOffers d offers → AreBackground d background →
    IsBookOfHistory d entries offers background cycles book →
    AreAsJudged (printed_latencies d plan streams) (deliveries_of (run_of_history d entries offers background cycles) streams book)

-- the same in the book of a script over the plan's streams
abbrev pub VerdictsHoldOfScripts : Type 0
VerdictsHoldOfScripts =
    (limits : Limits) (cycles : ℕ) (input : List ℕ) (s : Scenario) (streams : List PlannedText) (plan : List Recorded) (book : Contents) →
    cycles ≤ most_cycles → planned_scenario limits cycles input ≡ Ok (s, streams) → IsDomain s.domain → MayBeRun cycles s →
    admitted_from s.domain [] 1 (asked_in streams) ≡ Ok plan → IsBookOfScenario cycles s book →
    AreAsJudged (printed_latencies s.domain plan streams) (deliveries_of (run_of_scenario cycles s) streams book)

-- and in the book of each account of its run on threads
abbrev pub VerdictsHoldOfAccounts : Type 0
VerdictsHoldOfAccounts =
    (limits : Limits) (cycles : ℕ) (input : List ℕ) (s : Scenario) (streams : List PlannedText) (plan entries : List Recorded)
    (asked : List (List Act)) (book : Contents) →
    planned_scenario limits cycles input ≡ Ok (s, streams) → IsDomain s.domain → MayBeRun cycles s →
    admitted_from s.domain [] 1 (asked_in streams) ≡ Ok plan → AreCommandsAfter s.calls s.sealer asked →
    IsAccountOf s.domain (opening_history s) s.offers s.background cycles asked entries book →
    AreAsJudged (printed_latencies s.domain plan streams)
    (deliveries_of (run_of_history s.domain entries s.offers s.background cycles) streams book)
