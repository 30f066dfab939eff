-- What a plan, the output of `latency` and that of `summary` say about a run, by bytes.
use Rattle.std.proofs.Common.{◌≡◌, ◌≤◌, ◌∙◌, ◌∷◌, [], ℕ, Bool, List, Option, None, Ok, ap, map, refl, subst, sym}
use Rattle.std.specs.Prelude.{if◌then◌else◌}
use Rattle.cqf_lists.specs.Results.{and_then}
use Rattle.cqf_model.specs.declared.limits.Limits.{Limits}
use Rattle.cqf_model.specs.Book.{Contents}
use Rattle.cqf_model.specs.Domain.{Domain, IsAccepted}
use Rattle.cqf_model.specs.History.{Asked, Recorded, held_in}
use Rattle.cqf_model.specs.HistoryBook.{run_of_history}
use Rattle.cqf_model.specs.Limits.{most_cycles}
use Rattle.cqf_model.specs.Run.{Run}
use Rattle.cqf_topology.specs.DomainText.{IsDomain}
use Rattle.cqf_topology.specs.PacedText.{PacedText}
use Rattle.cqf_topology.specs.PlannedText.{PlannedText}
use Rattle.cqf_topology.proofs.Refusals.{refuse-Ok}
use Rattle.cqf_traffic.specs.FlowsText.{FlowText}
use Rattle.cqf_network.specs.NetworkDomain.{NetworkDomain}
use Rattle.cqf_edge.specs.EdgeFlows.{EdgeFlowsText}
use Rattle.cqf_edge.specs.EdgeLaws.{StreamsComeByLinks}
use Rattle.cqf_admission.specs.Asking.{asked_by}
use Rattle.cqf_program_scenario.specs.Networks.{domain_of, network_of_part}
use Rattle.cqf_program_scenario.specs.Parts.{RunTexts}
use Rattle.cqf_program_scenario.specs.Scenario.{Scenario, scenario_input, scenario_of}
use Rattle.cqf_program_plans.specs.Compile.Output.{admitted_from}
use Rattle.cqf_program_plans.specs.Edges.{open_edges_of_part}
use Rattle.cqf_program_plans.specs.Latency.Input.{asked_in, latency_input, latency_of_input, plan_from, plan_with, streams_for}
use Rattle.cqf_program_plans.specs.Latency.Output.{PlanFromTalkers, latency_from_talkers, latency_written}
use Rattle.cqf_program_plans.specs.Latency.Text.{first_line_of, latencies_from, text_of_latency}
use Rattle.cqf_program_plans.specs.Reserving.{first_lack, lack_line, planned_octets, requests_at}
use Rattle.cqf_program_plans.proofs.CompileLemmas.{same_ok}
use Rattle.cqf_program_runs.specs.declared.deliveries.delivery.Delivery.{Delivery}
use Rattle.cqf_program_runs.specs.Deliveries.{deliveries_of}
use Rattle.cqf_program_runs.specs.Deliveries.PlannedScenario.{planned_of_part, planned_scenario, planned_scenario_of, run_of_scenario}
use Rattle.cqf_program_summary.specs.Summary.Output.{IsSummaryOutput}
use Rattle.cqf_program_planning.specs.declared.choosing.Search.{Search}
use Rattle.cqf_program_laws.specs.OutputLaws.{AreAsWritten, BeginsWith, DeliveriesAreAsWritten, HasTexts, RunsKeepWrittenPlans, TextKeepsItsWord}
use Rattle.cqf_program_laws.specs.OutputLaws.{ThreadsAreAsWritten, ThreadsKeepWrittenPlans, WrittenLatenciesAreBounded, WrittenOffersCountOnce, WrittenRowsAddUp}
use Rattle.cqf_program_laws.specs.PlanLaws.{IsKeptPlan, PlanKeepsItsWord, PlansKeepTheirWordOnThreads, PlansKeepTheirWordToScripts}
use Rattle.cqf_program_laws.specs.ReaderLaws.{EdgesArePlanned, IsRunnable, PlannedScenariosAreScenarios, ReadersAgreeOnParts, ScenariosMayBeRun}
use Rattle.cqf_program_laws.specs.SummaryLaws.{EachOfferCountsOnce, IsReadRun, LatenciesAreBounded, RowsAddUp}
use Rattle.cqf_program_laws.specs.TalkerLaws.{WordsHoldFromTalkers}
use Rattle.cqf_program_laws.specs.WrittenPlans.{HasKeptPlan, WrittenPlansRun}
use Rattle.cqf_program_laws.specs.VerdictLaws.{AreAsJudged, VerdictsHoldOfAccounts, VerdictsHoldOfScripts, printed_latencies}
use Rattle.cqf_program_laws.proofs.JudgedFrom.{are_left, as_judged_from}
use Rattle.cqf_program_laws.proofs.MayRun.{parts_of_scenario}
use Rattle.cqf_program_laws.proofs.Scripts.{stepped}

-- streams without their traffic
abbrev bare : EdgeFlowsText → List PlannedText
bare edge = map (λ (flow : FlowText). flow.0) edge.flows

-- ---- the scenario of an input, by the texts with which it begins

record IsRunOver (limits : Limits) (cycles : ℕ) (input : List ℕ) (d : Domain) (streams : List PlannedText) (s : Scenario) : Type 0 where
  holds : planned_scenario limits cycles input ≡ Ok (s, streams)
  domain_is : s.domain ≡ d
  runnable : IsRunnable limits cycles s

module _ (agree : ReadersAgreeOnParts) (may_run : ScenariosMayBeRun) (limits : Limits) (cycles : ℕ) (domain streams input : List ℕ)
    (begins : BeginsWith domain streams input) where
  run_over : (network : NetworkDomain) (planned : List PlannedText) (s : Scenario) → network_of_part limits domain ≡ Ok network →
      planned_of_part network streams ≡ Ok planned → scenario_input limits cycles input ≡ Ok s →
      IsRunOver limits cycles input (domain_of network) planned s
  run_over network planned s is_network streams_read holds =
      let texts : RunTexts = begins.texts in
      let whole : scenario_of limits cycles texts ≡ Ok s = sym (ap (λ parts. and_then parts (scenario_of limits cycles)) begins.parts) ∙ holds in
      let own : network_of_part limits texts.domain ≡ Ok network = ap (network_of_part limits) begins.domain_is ∙ is_network in
      let read : planned_of_part network texts.streams ≡ Ok planned = ap (planned_of_part network) begins.streams_are ∙ streams_read in
      let both = agree limits cycles texts planned (λ other is.
      subst (λ (n : NetworkDomain). planned_of_part n texts.streams ≡ Ok planned) (same_ok network other (sym own ∙ is)) read)
      ∙ ap (λ found. and_then found (λ (one : Scenario). Ok (one, planned))) whole in
      let made = parts_of_scenario limits cycles texts s whole in
      record {
        holds = ap (λ parts. and_then parts (planned_scenario_of limits cycles)) begins.parts ∙ both;
        domain_is = same_ok s.domain (domain_of network) (sym made.domain ∙ ap (λ found. and_then found (λ (n : NetworkDomain). Ok (domain_of n))) own);
        runnable = may_run limits cycles input s holds;
      }

-- ---- plans

-- what the plan of a text promises at edge bridges, it promises from the hand-over
text_keeps : WordsHoldFromTalkers → (limits : Limits) (search : Search) (given : Option (List ℕ)) (network text : List ℕ) (has : HasKeptPlan limits search given network text)
    (run : Run) (cycles : ℕ) (book : Contents) → IsAccepted run.domain → PlanKeepsItsWord run has.edge.flows cycles book →
    TextKeepsItsWord limits text run cycles book
text_keeps words limits search given network text has run cycles book accepted keeps = record {
  network = has.network;
  is_network = has.is_read.is_network;
  found = has.found;
  are_streams = has.is_read.are_streams;
  edge = has.edge;
  part_is = has.is_read.part_is;
  at_edges = has.is_read.kept.at_edges;
  from_edges = keeps;
  from_talkers = words has.network has.found has.edge run cycles book has.is_read.kept.at_edges has.is_read.kept.none_full accepted keeps;
}

-- a scenario over a plan's text
plan_over : EdgesArePlanned → ReadersAgreeOnParts → ScenariosMayBeRun → (limits : Limits) (search : Search) (given : Option (List ℕ)) (network text : List ℕ) (cycles : ℕ)
    (input : List ℕ) (s : Scenario) (has : HasKeptPlan limits search given network text) → BeginsWith text text input →
    scenario_input limits cycles input ≡ Ok s →
    IsRunOver limits cycles input (domain_of has.network) (bare has.edge) s × IsKeptPlan s.domain has.edge.flows
plan_over edges agree may_run limits search given network text cycles input s has begins holds =
    let p = has.is_read in
    let over = run_over agree may_run limits cycles text text input begins has.network (bare has.edge) s p.is_network
    (edges has.network text has.edge p.part_is) holds in
    (over, subst (λ (d : Domain). IsKeptPlan d has.edge.flows) (sym over.domain_is) p.kept.kept)

pub runs_keep_written_plans : EdgesArePlanned → ReadersAgreeOnParts → ScenariosMayBeRun → WrittenPlansRun → WordsHoldFromTalkers → PlansKeepTheirWordToScripts →
    RunsKeepWrittenPlans
runs_keep_written_plans edges agree may_run runs words keep limits search given network text cycles input output candidates shallow plan begins short reported =
    let has = runs limits search given network text candidates shallow plan in
    let s = reported.scenario in
    let both = plan_over edges agree may_run limits search given network text cycles input s has begins reported.holds in
    let over = both.0 in
    text_keeps words limits search given network text has (run_of_scenario cycles s) cycles reported.book over.runnable.domain.accepted
    (keep limits cycles input s has.edge.flows reported.book short over.holds over.runnable.domain.accepted over.runnable.may both.1 reported.is_book)

pub threads_keep_written_plans : EdgesArePlanned → ReadersAgreeOnParts → ScenariosMayBeRun → WrittenPlansRun → WordsHoldFromTalkers →
    PlansKeepTheirWordOnThreads → ThreadsKeepWrittenPlans
threads_keep_written_plans edges agree may_run runs words keep limits search given network text cycles input output candidates shallow plan begins reported =
    let has = runs limits search given network text candidates shallow plan in
    let s = reported.scenario in
    let both = plan_over edges agree may_run limits search given network text cycles input s has begins reported.holds in
    let over = both.0 in
    text_keeps words limits search given network text has (run_of_history s.domain reported.entries s.offers s.background cycles) cycles reported.book
    over.runnable.domain.accepted
    (keep limits cycles input s has.edge.flows reported.entries _ reported.book over.holds over.runnable.domain.accepted over.runnable.may both.1
    reported.of_scenario.asked reported.of_scenario.is_account)

-- ---- verdicts

-- what an output of `latency` says about the texts of a domain and of streams
record IsLatencyOf (limits : Limits) (domain streams written : List ℕ) : Type 0 where
  network : NetworkDomain
  is_network : network_of_part limits domain ≡ Ok network
  edge : EdgeFlowsText
  at_edges : open_edges_of_part network streams ≡ Ok edge
  plan : List Recorded
  admitted : admitted_from (domain_of network) [] 1 (asked_in (bare edge)) ≡ Ok plan
  written_is : written ≡ text_of_latency (latencies_from (domain_of network) (held_in (domain_of network) plan 0) edge.deadlines edge.times)

-- requests of streams, with their traffic and without
same_asked : (flows : List FlowText) → map asked_by (map (λ (flow : FlowText). flow.0.0) flows) ≡ asked_in (map (λ (flow : FlowText). flow.0) flows)
same_asked [] = refl
same_asked (flow ∷ flows) = ap (λ (rest : List Asked). asked_by flow.0.0 ∷ rest) (same_asked flows)

-- what is written of streams that reserve enough
latencies_written : (strict : Bool) (network : NetworkDomain) (edge : EdgeFlowsText) (found : PlanFromTalkers) (written : List ℕ) →
    plan_from network edge ≡ Ok found → latency_from_talkers strict found ≡ Ok written →
    (plan : List Recorded) × (admitted_from (domain_of network) [] 1 (asked_in (bare edge)) ≡ Ok plan)
    × (written ≡ text_of_latency (latencies_from (domain_of network) (held_in (domain_of network) plan 0) edge.deadlines edge.times))
latencies_written strict network edge found written made h =
    let d = domain_of network in
    let requests : List PacedText = map (λ (flow : FlowText). flow.0.0) edge.flows in
    let c = stepped {B = PlanFromTalkers} (requests_at d edge.flows) (λ (asked : List PacedText). Ok (plan_with network edge asked)) found made in
    let enough = refuse-Ok (first_lack d.overhead d.cycle_time 1 (map planned_octets edge.flows)) lack_line (Ok requests) c.0 c.1 in
    let same : plan_with network edge requests ≡ found =
    ap (plan_with network edge) (same_ok requests c.0 enough.1) ∙ same_ok (plan_with network edge c.0) found c.2 in
    let reported = subst (λ (p : PlanFromTalkers). latency_from_talkers strict p ≡ Ok written) (sym same) h in
    let f = stepped {B = List ℕ} (admitted_from d [] 1 (map asked_by requests))
    (λ (entries : List Recorded). latency_written strict (latencies_from d (held_in d entries 0) edge.deadlines edge.times)) written reported in
    let latencies = latencies_from d (held_in d f.0 0) edge.deadlines edge.times in
    let rest = refuse-Ok (if strict then first_line_of latencies else None) (λ (first : List ℕ). first) (Ok (text_of_latency latencies)) written f.2 in (
      f.0,
      ap (admitted_from d [] 1) (sym (same_asked edge.flows)) ∙ f.1,
      sym (same_ok (text_of_latency latencies) written rest.1),
    )

latency_read : (limits : Limits) (strict : Bool) (domain streams plan written : List ℕ) → HasTexts domain streams plan →
    latency_of_input limits strict plan ≡ Ok written → IsLatencyOf limits domain streams written
latency_read limits strict domain streams plan written parts h =
    let t = stepped {B = List ℕ} (latency_input limits plan) (latency_from_talkers strict) written h in
    let inner = sym (ap (λ there. and_then there (λ (texts : List ℕ × List ℕ). and_then (network_of_part limits texts.0)
    (λ (network : NetworkDomain). streams_for network texts.1))) parts) ∙ t.1 in
    let a = stepped {B = PlanFromTalkers} (network_of_part limits domain) (λ (network : NetworkDomain). streams_for network streams) t.0 inner in
    let b = stepped {B = PlanFromTalkers} (open_edges_of_part a.0 streams) (plan_from a.0) t.0 a.2 in
    let reported = latencies_written strict a.0 b.0 t.0 written b.2 t.2 in
    record { network = a.0; is_network = a.1; edge = b.0; at_edges = b.1; plan = reported.0; admitted = reported.1; written_is = reported.2 }

-- deliveries over these texts that are as judged from edge bridges
as_written : StreamsComeByLinks → (limits : Limits) (domain streams written : List ℕ) (l : IsLatencyOf limits domain streams written) (d : Domain)
    (deliveries : List Delivery) → IsDomain d → d ≡ domain_of l.network →
    (admitted_from d [] 1 (asked_in (bare l.edge)) ≡ Ok l.plan → AreAsJudged (printed_latencies d l.plan (bare l.edge)) deliveries) →
    AreAsWritten limits domain streams written deliveries
as_written come limits domain streams written l d deliveries is_domain same judged =
    let own = domain_of l.network in
    let admitted = subst (λ (x : Domain). admitted_from x [] 1 (asked_in (bare l.edge)) ≡ Ok l.plan) (sym same) l.admitted in
    let accepted = subst IsDomain same is_domain in
    let there = subst (λ (x : Domain). AreAsJudged (printed_latencies x l.plan (bare l.edge)) deliveries) same (judged admitted) in
    record {
      network = l.network;
      is_network = l.is_network;
      edge = l.edge;
      at_edges = l.at_edges;
      plan = l.plan;
      admitted = l.admitted;
      written_is = l.written_is;
      judged = as_judged_from own (held_in own l.plan 0) l.edge deliveries accepted.accepted
          (are_left come limits domain streams l.network l.edge l.is_network l.at_edges) there;
    }

pub deliveries_are_as_written : StreamsComeByLinks → EdgesArePlanned → ReadersAgreeOnParts → PlannedScenariosAreScenarios → ScenariosMayBeRun →
    VerdictsHoldOfScripts → DeliveriesAreAsWritten
deliveries_are_as_written come edges agree scenarios may_run verdicts limits strict domain streams plan written cycles input output parts latency begins short
    reported =
    let s : Scenario = reported.found.0 in
    let l = latency_read limits strict domain streams plan written parts latency in
    let planned = bare l.edge in
    let holds = scenarios limits cycles input s reported.found.1 reported.holds in
    let over = run_over agree may_run limits cycles domain streams input begins l.network planned s l.is_network (edges l.network streams l.edge l.at_edges)
    holds in
    let own : Scenario × List PlannedText = (s, planned) in
    let same : planned ≡ reported.found.1 = ap (λ (r : Scenario × List PlannedText). r.1) (same_ok own reported.found (sym over.holds ∙ reported.holds)) in
    let run = run_of_scenario cycles s in
    subst (λ (st : List PlannedText). AreAsWritten limits domain streams written (deliveries_of run st reported.book)) same
    (as_written come limits domain streams written l s.domain (deliveries_of run planned reported.book) over.runnable.domain over.domain_is
    (λ admitted. verdicts limits cycles input s planned l.plan reported.book short over.holds over.runnable.domain over.runnable.may admitted reported.is_book))

pub threads_are_as_written : StreamsComeByLinks → EdgesArePlanned → ReadersAgreeOnParts → ScenariosMayBeRun → VerdictsHoldOfAccounts → ThreadsAreAsWritten
threads_are_as_written come edges agree may_run verdicts limits strict domain streams plan written cycles input output network streams_planned parts latency
    is_network are_planned begins reported =
    let s : Scenario = reported.scenario in
    let l = latency_read limits strict domain streams plan written parts latency in
    let planned = bare l.edge in
    let read = edges l.network streams l.edge l.at_edges in
    let over = run_over agree may_run limits cycles domain streams input begins l.network planned s l.is_network read reported.holds in
    let one : l.network ≡ network = same_ok l.network network (sym l.is_network ∙ is_network) in
    let same : planned ≡ streams_planned =
    same_ok planned streams_planned (sym read ∙ ap (λ (n : NetworkDomain). planned_of_part n streams) one ∙ are_planned) in
    let run = run_of_history s.domain reported.entries s.offers s.background cycles in
    subst (λ (st : List PlannedText). AreAsWritten limits domain streams written (deliveries_of run st reported.book)) same
    (as_written come limits domain streams written l s.domain (deliveries_of run planned reported.book) over.runnable.domain over.domain_is
    (λ admitted.
    verdicts limits cycles input s planned l.plan reported.entries _ reported.book over.holds over.runnable.domain over.runnable.may admitted
    reported.of_scenario.asked reported.of_scenario.is_account))

-- ---- summaries

-- the run that a summary is of
read_run : PlannedScenariosAreScenarios → ScenariosMayBeRun → (limits : Limits) (cycles : ℕ) (input output : List ℕ) → cycles ≤ most_cycles →
    (reported : IsSummaryOutput limits cycles input output) → IsReadRun limits cycles input reported.found.0 reported.found.1 reported.book
read_run scenarios may_run limits cycles input output short reported =
    let s : Scenario = reported.found.0 in
    let runnable = may_run limits cycles input s (scenarios limits cycles input s reported.found.1 reported.holds) in
    record { short = short; read = reported.holds; domain = runnable.domain; may = runnable.may; is_book = reported.is_book }

pub written_rows_add_up : PlannedScenariosAreScenarios → ScenariosMayBeRun → RowsAddUp → WrittenRowsAddUp
written_rows_add_up scenarios may_run rows limits cycles input output fare path short reported of =
    rows limits cycles input reported.found.0 reported.found.1 reported.book fare path (read_run scenarios may_run limits cycles input output short reported) of

pub written_offers_count_once : PlannedScenariosAreScenarios → ScenariosMayBeRun → EachOfferCountsOnce → WrittenOffersCountOnce
written_offers_count_once scenarios may_run once limits cycles input output fare path short reported of =
    once limits cycles input reported.found.0 reported.found.1 reported.book fare path (read_run scenarios may_run limits cycles input output short reported) of

pub written_latencies_are_bounded : PlannedScenariosAreScenarios → ScenariosMayBeRun → LatenciesAreBounded → WrittenLatenciesAreBounded
written_latencies_are_bounded scenarios may_run bounded limits cycles input output fare path taken short reported of is =
    bounded limits cycles input reported.found.0 reported.found.1 reported.book fare path taken
    (read_run scenarios may_run limits cycles input output short reported) of is
