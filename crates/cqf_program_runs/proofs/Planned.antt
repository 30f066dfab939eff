-- What was read is the input's scenario, with its streams.
use Rattle.std.proofs.Common.{◌≡◌, ◌∙◌, ℕ, List, Result, Ok, true, if◌then◌else◌, map, ap, sym}
use Rattle.cqf_lists.specs.Results.{and_then}
use Rattle.cqf_model.specs.declared.limits.Limits.{Limits}
use Rattle.cqf_model.specs.Domain.{Domain}
use Rattle.cqf_model.specs.History.{Asked}
use Rattle.cqf_topology.specs.declared.paced.PacedRequest.{PacedRequest}
use Rattle.cqf_topology.specs.PlannedText.{PlannedText, planned_of_text}
use Rattle.cqf_traffic.specs.FlowsText.{FlowText}
use Rattle.cqf_edge.specs.EdgeFlows.{EdgeFlowsText}
use Rattle.cqf_network.specs.NetworkDomain.{NetworkDomain}
use Rattle.cqf_admission.specs.Asking.{asked_paced}
use Rattle.cqf_program_scenario.specs.Networks.{domain_of, network_of_part}
use Rattle.cqf_program_scenario.specs.Lines.{streams_line}
use Rattle.cqf_program_scenario.specs.Parts.{RunTexts}
use Rattle.cqf_program_plans.specs.Edges.{has_access, open_edges_of_part}
use Rattle.cqf_program_plans.specs.Latency.Input.{asked_in}
use Rattle.cqf_program_scenario.specs.Scenario.{Scenario, scenario_after}
use Rattle.cqf_output.specs.declared.stops.Stop.{Stop}
use Rattle.cqf_output.specs.Stops.{IsRefused, or_line}
use Rattle.cqf_program_runs.specs.Deliveries.PlannedScenario.{planned_of_part, planned_scenario_of}

-- the streams of a part of a network in which a station has an access link
module _ (network : NetworkDomain) (text : List ℕ) where
  -- without traffic
  abbrev pub planned_at : EdgeFlowsText → Result (List PlannedText) (List ℕ)
  planned_at edge = Ok (map (λ (flow : FlowText). flow.0) edge.flows)

  by_access : has_access network ≡ true → planned_of_part network text ≡ and_then (open_edges_of_part network text) planned_at
  by_access has = ap (λ b. if b then and_then (open_edges_of_part network text) planned_at else or_line streams_line (planned_of_text text)) has

  pub access-Ok : (edge : EdgeFlowsText) → has_access network ≡ true → open_edges_of_part network text ≡ Ok edge →
      planned_of_part network text ≡ planned_at edge
  access-Ok edge has part = by_access has ∙ ap (λ found. and_then found planned_at) part

  pub access-refused : (stop : Stop) → has_access network ≡ true → IsRefused (open_edges_of_part network text) stop →
      IsRefused (planned_of_part network text) stop
  access-refused stop has refused = record {
    statuses = refused.statuses;
    line = λ one. by_access has ∙ ap (λ found. and_then found planned_at) (refused.line one);
    memory = refused.memory;
  }

-- what follows the network and the streams, for any network and any streams
module _ (limits : Limits) (cycles : ℕ) (texts : RunTexts) where
  -- together with the streams
  abbrev with_scenario : List PlannedText → Scenario → Result (Scenario × List PlannedText) (List ℕ)
  with_scenario found scenario = Ok (scenario, found)

  abbrev with_streams : NetworkDomain → List PlannedText → Result (Scenario × List PlannedText) (List ℕ)
  with_streams network found = and_then (scenario_after cycles (domain_of network) (asked_in found) texts) (with_scenario found)

  abbrev with_network : NetworkDomain → Result (Scenario × List PlannedText) (List ℕ)
  with_network network = and_then (planned_of_part network texts.streams) (with_streams network)

  -- a network that was read
  network_is : (network : NetworkDomain) → network_of_part limits texts.domain ≡ Ok network → planned_scenario_of limits cycles texts ≡ with_network network
  network_is network part = ap (λ found. and_then found with_network) part

  -- if its streams are refused, all is
  pub streams-refused : (network : NetworkDomain) (stop : Stop) → network_of_part limits texts.domain ≡ Ok network →
      IsRefused (planned_of_part network texts.streams) stop → IsRefused (planned_scenario_of limits cycles texts) stop
  streams-refused network stop part refused = record {
    statuses = refused.statuses;
    line = λ one. network_is network part ∙ ap (λ found. and_then found (with_streams network)) (refused.line one);
    memory = refused.memory;
  }

module _ (limits : Limits) (cycles : ℕ) (texts : RunTexts) (network : NetworkDomain) (d : Domain) (streams : List PlannedText)
    (part : network_of_part limits texts.domain ≡ Ok network) (domain : d ≡ domain_of network)
    (read : planned_of_part network texts.streams ≡ Ok streams) where
  -- what follows the domain and the streams decides
  planned_is : planned_scenario_of limits cycles texts ≡ and_then (scenario_after cycles d (asked_in streams) texts) (with_scenario limits cycles texts streams)
  planned_is =
      network_is limits cycles texts network part
      ∙ ap (λ found. and_then found (with_streams limits cycles texts network)) read
      ∙ ap (λ own. and_then (scenario_after cycles own (asked_in streams) texts) (with_scenario limits cycles texts streams)) (sym domain)

  -- if that is read, all is
  pub planned-Ok : (requests : List PacedRequest) (s : Scenario) → map asked_paced requests ≡ asked_in streams →
      scenario_after cycles d (map asked_paced requests) texts ≡ Ok s → planned_scenario_of limits cycles texts ≡ Ok (s, streams)
  planned-Ok requests s asked is =
      planned_is
      ∙ ap (λ found. and_then found (with_scenario limits cycles texts streams)) (ap (λ (found : List Asked). scenario_after cycles d found texts) (sym asked) ∙ is)

  -- and if that is refused, all is
  pub planned-refused : (requests : List PacedRequest) (stop : Stop) → map asked_paced requests ≡ asked_in streams →
      IsRefused (scenario_after cycles d (map asked_paced requests) texts) stop → IsRefused (planned_scenario_of limits cycles texts) stop
  planned-refused requests stop asked refused = record {
    statuses = refused.statuses;
    line = λ one. planned_is
        ∙ ap (λ found. and_then found (with_scenario limits cycles texts streams)) (ap (λ (found : List Asked). scenario_after cycles d found texts) (sym asked)
        ∙ refused.line one);
    memory = refused.memory;
  }
