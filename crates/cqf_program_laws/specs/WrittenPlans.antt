-- What the text of a plan that `plan` writes ensures, if any cycle times that it is given are in their range.
use Rattle.std.specs.Prelude.{ℕ, ◌≡◌, IfSome, List, Option, Ok, false}
use Rattle.cqf_model.specs.declared.limits.Limits.{Limits}
use Rattle.cqf_model.specs.Domain.{Domain}
use Rattle.cqf_text.specs.Parts.{parts_of}
use Rattle.cqf_topology.specs.DomainText.{IsDomain}
use Rattle.cqf_network.specs.NetworkFlows.{NetworkFlowText, network_flows_of_text}
use Rattle.cqf_network.specs.NetworkDomain.{AreCandidates, NetworkDomain}
use Rattle.cqf_traffic.specs.FlowsText.{FlowText}
use Rattle.cqf_edge.specs.EdgeFlows.{EdgeFlowsText}
use Rattle.cqf_program_plans.specs.Edges.{open_edges_of_part}
use Rattle.cqf_program_scenario.specs.Networks.{domain_of, network_of_part}
use Rattle.cqf_program_scenario.specs.Parts.{two_parts}
use Rattle.cqf_program_planning.specs.declared.choosing.Search.{Search}
use Rattle.cqf_program_planning.specs.Choosing.{IsPlanned}
use Rattle.cqf_program_planning.specs.PlanOutput.{IsPlanOf, PlanSource, planning_input}
use Rattle.cqf_program_planning.specs.ReadPlans.{ComeAsPlaced, IsShallow}
use Rattle.cqf_program_laws.specs.TalkerLaws.{IsKeptNetwork}

-- a text that every command reads as a network with nothing left to choose, and with these streams at their edge bridges. Its domain is well-formed and
-- has the given limits; no access link is full, and all streams keep the plan's word
pub record ReadsAsKeptPlan (limits : Limits) (text : List ℕ) (network : NetworkDomain) (found : List NetworkFlowText) (edge : EdgeFlowsText) : Type 0 where
  pub is_network : network_of_part limits text ≡ Ok network
  pub domain : IsDomain (domain_of network)
  pub limits_are : network.limits ≡ limits
  pub are_streams : network_flows_of_text text ≡ Ok found
  pub part_is : open_edges_of_part network text ≡ Ok edge
  pub kept : IsKeptNetwork network found edge

-- the plan that `plan` makes of a network file, and its text: its domain, and its streams as they were placed, with what remains of their deadlines
-- at their edge bridges
pub record HasKeptPlan (limits : Limits) (search : Search) (given : Option (List ℕ)) (input text : List ℕ) : Type 0 where
  pub source : PlanSource
  pub is_input : planning_input limits given input ≡ Ok source
  pub domain : Domain
  pub flows : List FlowText
  pub planned : IsPlanned source.domain source.streams search domain flows
  pub network : NetworkDomain
  pub found : List NetworkFlowText
  pub edge : EdgeFlowsText
  pub is_read : ReadsAsKeptPlan limits text network found edge
  pub domain_is : domain_of network ≡ domain
  pub as_placed : ComeAsPlaced domain.cycle_time source.streams flows edge.flows

-- the tables of the file aren't nested deeper than the reader of a written text allows
abbrev pub AreShallow : List ℕ → Type 0
AreShallow input = (domain streams : List ℕ) → two_parts (parts_of input) ≡ Ok (domain, streams) → IsShallow domain × IsShallow streams

-- each text that `plan` writes is so, if its file's tables aren't nested too deep. Candidates for the cycle time that are given have to be in their
-- range, and at least one and at most 1,000
abbrev pub WrittenPlansRun : Type 0
WrittenPlansRun = (limits : Limits) (search : Search) (given : Option (List ℕ)) (input text : List ℕ) → IfSome given AreCandidates → AreShallow input →
    IsPlanOf limits false search given input (Ok text) → HasKeptPlan limits search given input text
