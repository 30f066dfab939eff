-- What a command reads in a text, those that read fewer of its keys read there too; and what is accepted may be run.
use Rattle.std.specs.Prelude.{ℕ, ◌≡◌, List, map, Ok}
use Rattle.cqf_lists.specs.Results.{and_then}
use Rattle.cqf_model.specs.declared.limits.Limits.{Limits}
use Rattle.cqf_topology.specs.DomainText.{IsDomain}
use Rattle.cqf_topology.specs.PacedText.{paced_of_text}
use Rattle.cqf_topology.specs.PlannedText.{PlannedText, planned_of_text}
use Rattle.cqf_traffic.specs.FlowsText.{FlowText, flows_of_text}
use Rattle.cqf_network.specs.NetworkFlows.{NetworkFlowText, network_flows_of_text}
use Rattle.cqf_network.specs.NetworkDomain.{NetworkDomain}
use Rattle.cqf_edge.specs.EdgeFlows.{EdgeFlowsText}
use Rattle.cqf_program_scenario.specs.Closing.{MayBeRun}
use Rattle.cqf_program_scenario.specs.Networks.{network_of_part}
use Rattle.cqf_program_scenario.specs.Parts.{RunTexts}
use Rattle.cqf_program_scenario.specs.Scenario.{Scenario, scenario_input, scenario_of}
use Rattle.cqf_program_plans.specs.Edges.{open_edges_of_part}
use Rattle.cqf_program_runs.specs.Deliveries.PlannedScenario.{planned_of_part, planned_scenario, planned_scenario_of}

-- streams that are read with their talkers are read without them as the same streams with the same deadlines and traffic
abbrev pub NetworkFlowsAreFlows : Type 0
NetworkFlowsAreFlows = (text : List ℕ) (found : List NetworkFlowText) → network_flows_of_text text ≡ Ok found →
    flows_of_text text ≡ Ok (map (λ (one : NetworkFlowText). one.flow) found)

-- streams that are read with their traffic are read without it as the same streams with the same deadlines
abbrev pub FlowsArePlanned : Type 0
FlowsArePlanned = (text : List ℕ) (flows : List FlowText) → flows_of_text text ≡ Ok flows →
    planned_of_text text ≡ Ok (map (λ (flow : FlowText). flow.0) flows)

-- streams that are read with their deadlines are read without them as the same requests
abbrev pub PlannedStreamsArePaced : Type 0
PlannedStreamsArePaced = (text : List ℕ) (streams : List PlannedText) → planned_of_text text ≡ Ok streams →
    paced_of_text text ≡ Ok (map (λ (planned : PlannedText). planned.0) streams)

-- the streams of a part of a network, at their edge bridges, are read without their traffic as the same streams with the same deadlines
-- from there on
abbrev pub EdgesArePlanned : Type 0
EdgesArePlanned = (network : NetworkDomain) (text : List ℕ) (edge : EdgeFlowsText) → open_edges_of_part network text ≡ Ok edge →
    planned_of_part network text ≡ Ok (map (λ (flow : FlowText). flow.0) edge.flows)

-- and streams of a part that are read with these deadlines are read without them as the same requests
abbrev pub PlannedPartsArePaced : Type 0
PlannedPartsArePaced = (network : NetworkDomain) (text : List ℕ) (streams : List PlannedText) → planned_of_part network text ≡ Ok streams →
    paced_of_text text ≡ Ok (map (λ (planned : PlannedText). planned.0) streams)

-- so if the streams are read with their deadlines in a network, or the network isn't read, `deliveries`, `check` and `summary` read what `run` and
-- `report` read, or refuse the parts for the same first fault
abbrev pub ReadersAgreeOnParts : Type 0
ReadersAgreeOnParts = (limits : Limits) (cycles : ℕ) (texts : RunTexts) (streams : List PlannedText) →
    ((network : NetworkDomain) → network_of_part limits texts.domain ≡ Ok network → planned_of_part network texts.streams ≡ Ok streams) →
    planned_scenario_of limits cycles texts ≡ and_then (scenario_of limits cycles texts) (λ (s : Scenario). Ok (s, streams))

-- each input that is accepted with its deadlines is accepted as the same scenario without them: with the same domain, calls, offers and
-- background frames
abbrev pub PlannedScenariosAreScenarios : Type 0
PlannedScenariosAreScenarios = (limits : Limits) (cycles : ℕ) (input : List ℕ) (s : Scenario) (streams : List PlannedText) →
    planned_scenario limits cycles input ≡ Ok (s, streams) → scenario_input limits cycles input ≡ Ok s

-- a scenario of an input that is read within limits: its domain is well-formed and has these limits, and it may be run
pub record IsRunnable (limits : Limits) (cycles : ℕ) (s : Scenario) : Type 0 where
  pub domain : IsDomain s.domain
  pub limits_are : s.domain.limits ≡ limits
  pub may : MayBeRun cycles s

-- each scenario that is accepted is so, for any number of cycles
abbrev pub ScenariosMayBeRun : Type 0
ScenariosMayBeRun =
    (limits : Limits) (cycles : ℕ) (input : List ℕ) (s : Scenario) → scenario_input limits cycles input ≡ Ok s → IsRunnable limits cycles s
