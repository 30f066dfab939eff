-- What a plan, the output of `latency` and that of `summary` say about a run, by the bytes of the commands' inputs and outputs.
use Rattle.std.specs.Prelude.{ℕ, ◌≡◌, ◌+◌, ◌≤◌, [], Bool, Contains, IfSome, List, Option, None, Ok, Some, false, map, true}
use Rattle.cqf_units.specs.declared.timing.Nanos.{Nanos}
use Rattle.cqf_model.specs.declared.limits.Limits.{Limits}
use Rattle.cqf_model.specs.declared.topology.Row.{Row}
use Rattle.cqf_model.specs.Book.{Contents}
use Rattle.cqf_model.specs.Domain.{Domain}
use Rattle.cqf_model.specs.History.{Recorded, held_in}
use Rattle.cqf_model.specs.HistoryBook.{run_of_history}
use Rattle.cqf_model.specs.Limits.{most_cycles}
use Rattle.cqf_model.specs.Run.{Run}
use Rattle.cqf_text.specs.Parts.{parts_of}
use Rattle.cqf_topology.specs.PlannedText.{PlannedText}
use Rattle.cqf_network.specs.NetworkFlows.{NetworkFlowText, network_flows_of_text}
use Rattle.cqf_network.specs.NetworkDomain.{AreCandidates, NetworkDomain}
use Rattle.cqf_traffic.specs.FlowsText.{FlowText}
use Rattle.cqf_edge.specs.declared.edge.AccessTimes.{AccessTimes}
use Rattle.cqf_edge.specs.EdgeFlows.{EdgeFlowsText, edge_flows}
use Rattle.cqf_program_scenario.specs.Networks.{domain_of, network_of_part}
use Rattle.cqf_program_scenario.specs.Parts.{RunTexts, run_parts, two_parts}
use Rattle.cqf_program_plans.specs.declared.latency.latencies.Latency.{Latency}
use Rattle.cqf_program_plans.specs.declared.latency.latencies.Verdict.TheVariants as reported
use Rattle.cqf_program_plans.specs.Compile.Output.{admitted_from}
use Rattle.cqf_program_plans.specs.Edges.{open_edges_of_part}
use Rattle.cqf_program_plans.specs.Latency.Input.{asked_in, latency_of_input}
use Rattle.cqf_program_plans.specs.Latency.Text.{deadline_of, latencies_from, latencies_of_row, latency_from_talker, text_of_latency, times_of, verdict_on_deadline}
use Rattle.cqf_program_planning.specs.declared.choosing.Search.{Search}
use Rattle.cqf_program_planning.specs.PlanOutput.{IsPlanOf}
use Rattle.cqf_program_runs.specs.declared.deliveries.delivery.Delivery.{Delivery}
use Rattle.cqf_program_runs.specs.declared.deliveries.delivery.Fate.TheVariants as fate
use Rattle.cqf_program_runs.specs.declared.deliveries.delivery.Journey.{Journey}
use Rattle.cqf_program_runs.specs.declared.deliveries.delivery.Passage.TheVariants as passage
use Rattle.cqf_program_runs.specs.Deliveries.ArrivalLaws.{has_come}
use Rattle.cqf_program_runs.specs.Deliveries.{deliveries_of, fate_of, latency_of}
use Rattle.cqf_program_runs.specs.Deliveries.Output.{IsDeliveriesOutput}
use Rattle.cqf_program_runs.specs.Deliveries.PlannedScenario.{planned_of_part, run_of_scenario}
use Rattle.cqf_program_runs.specs.Run.Output.{IsRunOutput}
use Rattle.cqf_program_summary.specs.declared.summary.fares.ListenerPath.{ListenerPath}
use Rattle.cqf_program_summary.specs.declared.summary.tallies.LatencySummary.{LatencySummary}
use Rattle.cqf_program_summary.specs.Summary.{Fare}
use Rattle.cqf_program_summary.specs.Summary.Output.{IsSummaryOutput}
use Rattle.cqf_program_threads.specs.ThreadsOutput.{IsThreadsOutput}
use Rattle.cqf_program_laws.specs.PlanLaws.{PlanKeepsItsWord}
use Rattle.cqf_program_laws.specs.SummaryLaws.{AreWithinBounds, CountsEachOnce, IsRowOf}
use Rattle.cqf_program_laws.specs.TalkerLaws.{NetworkKeepsItsWord}
use Rattle.cqf_program_laws.specs.WrittenPlans.{AreShallow}
use Rattle.cqf_program_laws.specs.VerdictLaws.{IsDeliveryTo}

-- the input of a run begins with these texts of a domain and of streams
pub record BeginsWith (domain streams input : List ℕ) : Type 0 where
  pub texts : RunTexts
  pub parts : run_parts (parts_of input) ≡ Ok texts
  pub domain_is : texts.domain ≡ domain
  pub streams_are : texts.streams ≡ streams

-- ---- plans

-- the network of a text keeps its word in the book of a run: each of its streams from its edge bridge on, and each that is handed to an access link from
-- the hand-over on
pub record TextKeepsItsWord (limits : Limits) (text : List ℕ) (run : Run) (cycles : ℕ) (book : Contents) : Type 0 where
  pub network : NetworkDomain
  pub is_network : network_of_part limits text ≡ Ok network
  pub found : List NetworkFlowText
  pub are_streams : network_flows_of_text text ≡ Ok found
  pub edge : EdgeFlowsText
  pub part_is : open_edges_of_part network text ≡ Ok edge
  pub at_edges : edge_flows network found ≡ Ok edge
  pub from_edges : PlanKeepsItsWord run edge.flows cycles book
  pub from_talkers : NetworkKeepsItsWord network found edge run cycles book

-- each text that `plan` writes keeps its word in each output of `run` whose input begins with it, as both the domain and the streams
abbrev pub RunsKeepWrittenPlans : Type 0
RunsKeepWrittenPlans =
    (limits : Limits) (search : Search) (given : Option (List ℕ)) (network text : List ℕ) (cycles : ℕ) (input output : List ℕ) → IfSome given AreCandidates →
    AreShallow network → IsPlanOf limits false search given network (Ok text) → BeginsWith text text input → cycles ≤ most_cycles → (reported : IsRunOutput limits cycles input output) →
    TextKeepsItsWord limits text (run_of_scenario cycles reported.scenario) cycles reported.book

-- and in each output of `run --threads`
abbrev pub ThreadsKeepWrittenPlans : Type 0
ThreadsKeepWrittenPlans =
    (limits : Limits) (search : Search) (given : Option (List ℕ)) (network text : List ℕ) (cycles : ℕ) (input output : List ℕ) → IfSome given AreCandidates →
    AreShallow network → IsPlanOf limits false search given network (Ok text) → BeginsWith text text input → (reported : IsThreadsOutput limits cycles input output) →
    TextKeepsItsWord limits text (run_of_history reported.scenario.domain reported.entries reported.scenario.offers reported.scenario.background cycles) cycles reported.book

-- ---- verdicts

-- a frame was handed over at an instant, and offered at another: at once if its stream begins at its edge bridge, or after a time that it may take
-- from the hand-over to there
abbrev pub IsHandedBefore : Option AccessTimes → ℕ → ℕ → Type 0
IsHandedBefore None at offered = at ≡ offered
IsHandedBefore (Some times) at offered = (at + times.least ≤ offered) × (offered ≤ at + times.most)

-- if the delivery's frame is whole within the run, it takes no less than the latency's least, and no more than its most, from the hand-over. If the
-- verdict is `in-time`, the frame isn't late; if it is `late`, the frame is late once it has arrived
pub record IsAsJudgedFrom (times : Option AccessTimes) (latency : Latency) (delivery : Delivery) : Type 0 where
  pub within : (journey : Journey) (whole : Nanos) (at : ℕ) → delivery.passage ≡ passage.Goes journey → journey.whole ≡ Some whole →
      IsHandedBefore times at delivery.at.0 → (latency.least ≤ latency_of at whole) × (latency_of at whole ≤ latency.most)
  pub in_time : verdict_on_deadline latency ≡ Some reported.InTime → fate_of delivery ≡ fate.Late → ⊥
  pub late : verdict_on_deadline latency ≡ Some reported.Late → has_come (fate_of delivery) ≡ true → fate_of delivery ≡ fate.Late

-- the latencies of a row that `latency` writes, from the bridge or the station at which its stream begins
abbrev pub latencies_written_of : Domain → List Row → EdgeFlowsText → Row → List Latency
latencies_written_of d rows edge row =
    map (latency_from_talker (times_of edge.times row.no)) (latencies_of_row d rows row (deadline_of edge.deadlines row.no))

-- each of some deliveries to a listener of one of these latencies is so
abbrev pub AreAsJudgedFrom : Domain → List Row → EdgeFlowsText → List Delivery → Type 0
AreAsJudgedFrom d rows edge deliveries = (row : Row) (latency : Latency) (delivery : Delivery) → Contains rows row →
    Contains (latencies_written_of d rows edge row) latency → Contains deliveries delivery → IsDeliveryTo latency delivery →
    IsAsJudgedFrom (times_of edge.times row.no) latency delivery

-- an output of `latency` is the text of the latencies of a network's streams, from where they begin. At their edge bridges they are all admitted
-- before cycle 0; and deliveries are as these latencies say
pub record AreAsWritten (limits : Limits) (domain streams written : List ℕ) (deliveries : List Delivery) : Type 0 where
  pub network : NetworkDomain
  pub is_network : network_of_part limits domain ≡ Ok network
  pub edge : EdgeFlowsText
  pub at_edges : open_edges_of_part network streams ≡ Ok edge
  pub plan : List Recorded
  pub admitted : admitted_from (domain_of network) [] 1 (asked_in (map (λ (flow : FlowText). flow.0) edge.flows)) ≡ Ok plan
  pub written_is : written ≡ text_of_latency (latencies_from (domain_of network) (held_in (domain_of network) plan 0) edge.deadlines edge.times)
  pub judged : AreAsJudgedFrom (domain_of network) (held_in (domain_of network) plan 0) edge deliveries

-- the input of `latency` has these texts of a domain and of streams
abbrev pub HasTexts : List ℕ → List ℕ → List ℕ → Type 0
HasTexts domain streams plan = two_parts (parts_of plan) ≡ Ok (domain, streams)

-- the deliveries in each output of `deliveries` are as `latency` says about the texts with which its input begins
abbrev pub DeliveriesAreAsWritten : Type 0
DeliveriesAreAsWritten =
    (limits : Limits) (strict : Bool) (domain streams plan written : List ℕ) (cycles : ℕ) (input output : List ℕ) → HasTexts domain streams plan →
    latency_of_input limits strict plan ≡ Ok written → BeginsWith domain streams input → cycles ≤ most_cycles →
    (reported : IsDeliveriesOutput limits cycles input output) →
    AreAsWritten limits domain streams written (deliveries_of (run_of_scenario cycles reported.found.0) reported.found.1 reported.book)

-- and so are those in the book of each output of `run --threads`
abbrev pub ThreadsAreAsWritten : Type 0
ThreadsAreAsWritten =
    (limits : Limits) (strict : Bool) (domain streams plan written : List ℕ) (cycles : ℕ) (input output : List ℕ) (network : NetworkDomain)
    (planned : List PlannedText) → HasTexts domain streams plan → latency_of_input limits strict plan ≡ Ok written →
    network_of_part limits domain ≡ Ok network → planned_of_part network streams ≡ Ok planned → BeginsWith domain streams input →
    (reported : IsThreadsOutput limits cycles input output) →
    AreAsWritten limits domain streams written
    (deliveries_of (run_of_history reported.scenario.domain reported.entries reported.scenario.offers reported.scenario.background cycles) planned reported.book)

-- ---- summaries

-- the offers that a row of an output of `summary` counts are as many as the delivered, late, dropped and under-way ones at its listener
-- together
abbrev pub WrittenRowsAddUp : Type 0
WrittenRowsAddUp =
    (limits : Limits) (cycles : ℕ) (input output : List ℕ) (fare : Fare) (path : ListenerPath) → cycles ≤ most_cycles →
    (reported : IsSummaryOutput limits cycles input output) → IsRowOf cycles reported.found.0 reported.found.1 reported.book fare path →
    fare.offered ≡ path.tally.delivered + path.tally.late + fare.dropped + path.tally.under_way

-- each number of such a row is that of the offers that end in one way, and each of these ends in exactly one
abbrev pub WrittenOffersCountOnce : Type 0
WrittenOffersCountOnce =
    (limits : Limits) (cycles : ℕ) (input output : List ℕ) (fare : Fare) (path : ListenerPath) → cycles ≤ most_cycles →
    (reported : IsSummaryOutput limits cycles input output) → IsRowOf cycles reported.found.0 reported.found.1 reported.book fare path →
    CountsEachOnce (run_of_scenario cycles reported.found.0) reported.found.1 reported.book fare path

-- and its times are within the bounds of `latency`
abbrev pub WrittenLatenciesAreBounded : Type 0
WrittenLatenciesAreBounded =
    (limits : Limits) (cycles : ℕ) (input output : List ℕ) (fare : Fare) (path : ListenerPath) (taken : LatencySummary) → cycles ≤ most_cycles →
    (reported : IsSummaryOutput limits cycles input output) → IsRowOf cycles reported.found.0 reported.found.1 reported.book fare path →
    path.tally.taken ≡ Some taken → AreWithinBounds reported.found.0.domain (asked_in reported.found.1) fare path taken
