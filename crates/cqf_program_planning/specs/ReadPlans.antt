-- What every command reads in the text of a plan: the domain on the chosen cycle time, and the streams that were placed there.
use Rattle.std.specs.Prelude.{ℕ, ◌≡◌, ◌+◌, ◌*◌, ◌%◌, ◌≤◌, List, [], All, Contains, IfSome, Option, Some, None, Ok, false, length, map, slice_get, true}
use Rattle.std.specs.Option.{ForSome}
use Rattle.toml.specs.Data.{Members, members_depth}
use Rattle.cqf_lists.specs.Results.{and_then}
use Rattle.cqf_model.specs.declared.limits.Limits.{Limits}
use Rattle.cqf_laws_timing.specs.Traffic.{offers_named}
use Rattle.cqf_model.specs.declared.frames.Offer.{Offer}
use Rattle.cqf_model.specs.Domain.{Domain, cycle_of}
use Rattle.cqf_model.specs.History.{Recorded, held_in, pace_of}
use Rattle.cqf_model.specs.Paces.{is_active}
use Rattle.cqf_topology.specs.PacedText.{paced_of_text}
use Rattle.cqf_topology.specs.PlannedText.{planned_of_text}
use Rattle.cqf_topology.specs.StreamsText.{streams_of_text}
use Rattle.cqf_traffic.specs.FlowsText.{FlowText, flows_of_text}
use Rattle.cqf_traffic.specs.PacedFlows.{paced_flows_of_text}
use Rattle.cqf_traffic.specs.Offering.{offers_before}
use Rattle.cqf_traffic.specs.TrafficText.{TrafficText}
use Rattle.cqf_network.specs.NetworkFlows.{NetworkFlowText, network_flows_of_text}
use Rattle.cqf_network.specs.NetworkDomain.{AreCandidates, NetworkDomain, network_of_text}
use Rattle.cqf_edge.specs.EdgeFlows.{EdgeFlowsText, edge_flows}
use Rattle.cqf_network_text.specs.Networks.{table_of}
use Rattle.cqf_network_text.specs.Plans.{unpaced}
use Rattle.cqf_text.specs.Parts.{parts_of}
use Rattle.cqf_program_scenario.specs.Networks.{domain_of}
use Rattle.cqf_program_scenario.specs.Parts.{two_parts}
use Rattle.cqf_program_plans.specs.declared.latency.latencies.Latency.{Latency}
use Rattle.cqf_program_plans.specs.Compile.Output.{admitted_from}
use Rattle.cqf_program_plans.specs.Edges.{open_edges_of_part}
use Rattle.cqf_program_plans.specs.Latency.Input.{plan_from}
use Rattle.cqf_program_plans.specs.Latency.Output.{latency_from_talkers}
use Rattle.cqf_program_plans.specs.Latency.Text.{is_not_sure, latencies_from, latencies_of, text_of_latency}
use Rattle.cqf_program_plans.specs.Reserving.{first_lack, planned_octets}
use Rattle.cqf_program_offers.specs.OffersOutput.{asked_in, sender_of}
use Rattle.cqf_program_placing.specs.Placing.{is_chosen_on}
use Rattle.cqf_program_placing.specs.Settled.{SettledStream}
use Rattle.cqf_program_planning.specs.declared.choosing.Search.{Search}
use Rattle.cqf_program_planning.specs.Choosing.{IsPlanned, IsUnplanned}
use Rattle.cqf_program_planning.specs.PlanLaws.{ReservesEnough, deadlines_of}
use Rattle.cqf_program_planning.specs.PlanOutput.{IsPlanText, PlanSource, planning_input, planning_parts}

-- a text's table isn't nested deeper than the reader allows
abbrev pub IsShallow : List ℕ → Type 0
IsShallow text = ForSome (table_of text) (λ (members : Members). members_depth members ≤ 80)

-- the readers of a text agree: they find this network and these streams, with their talkers, their traffic and their deadlines, or without
pub record ReadsAs (limits : Limits) (text : List ℕ) (network : NetworkDomain) (found : List NetworkFlowText) : Type 0 where
  pub network_is : network_of_text limits text ≡ Ok network
  pub network_flows_are : network_flows_of_text text ≡ Ok found
  pub flows_are : flows_of_text text ≡ Ok (map (λ (one : NetworkFlowText). one.flow) found)
  pub paced_flows_are : paced_flows_of_text text ≡ Ok (map (λ (one : NetworkFlowText). (one.flow.0.0, one.flow.1)) found)
  pub planned_are : planned_of_text text ≡ Ok (map (λ (one : NetworkFlowText). one.flow.0) found)
  pub paced_are : paced_of_text text ≡ Ok (map (λ (one : NetworkFlowText). one.flow.0.0) found)
  pub requests_are : streams_of_text text ≡ Ok (map (λ (one : NetworkFlowText). unpaced one.flow.0.0) found)

-- the traffic at the edge bridge of a stream that is read and whose cycles were chosen is the traffic that was placed, but its grid begins at the
-- same instant of any round of its cycles, and its jitter may be less
pub record ComesInRound (round : ℕ) (placed there : TrafficText) : Type 0 where
  pub interval : there.interval ≡ placed.interval
  pub frames : there.frames ≡ placed.frames
  pub size : there.size ≡ placed.size
  pub jitter : there.jitter ≤ placed.jitter
  pub offset : there.offset % round ≡ placed.offset % round

abbrev pub ComesIn : ℕ → Option TrafficText → Option TrafficText → Type 0
ComesIn round None there = there ≡ None
ComesIn round (Some placed) None = ⊥
ComesIn round (Some placed) (Some there) = ComesInRound round placed there

-- a stream that is read arrives at its edge bridge as it was placed: with the same name, octets, cycles and paths, and with the same rest of its
-- deadline. If its cycles weren't chosen, its traffic is the same too
pub record ComesAsPlaced (cycle_time : ℕ) (stream : SettledStream) (flow there : FlowText) : Type 0 where
  pub request : there.0.0 ≡ flow.0.0
  pub deadline : there.0.1 ≡ flow.0.1
  pub whole : is_chosen_on cycle_time stream ≡ false → there.1 ≡ flow.1
  pub chosen : is_chosen_on cycle_time stream ≡ true → ComesIn (flow.0.0.every * cycle_time) flow.1 there.1

-- each of some streams does, in their order
pub record ComeAsPlaced (cycle_time : ℕ) (streams : List SettledStream) (flows there : List FlowText) : Type 0 where
  pub as_many : length there ≡ length flows
  pub each : (index : ℕ) (stream : SettledStream) (flow one : FlowText) → slice_get streams index ≡ Some stream → slice_get flows index ≡ Some flow →
      slice_get there index ≡ Some one → ComesAsPlaced cycle_time stream flow one

-- streams at their edge bridges are a good plan: each is admitted before cycle 0 and reserves what its talker needs in a cycle, so none is refused
-- for less; and no frame of theirs may miss its deadline
pub record IsGoodPlan (d : Domain) (flows : List FlowText) : Type 0 where
  pub entries : List Recorded
  pub admitted : admitted_from d [] 1 (map asked_in flows) ≡ Ok entries
  pub enough : All (ReservesEnough d.overhead d.cycle_time) flows
  pub none_lacks : first_lack d.overhead d.cycle_time 1 (map planned_octets flows) ≡ None
  pub in_time : All (λ (latency : Latency). is_not_sure latency ≡ false) (latencies_of d (held_in d entries 0) (deadlines_of flows))

-- every command reads a text as a plan: as the network with this domain, and as streams that arrive at their edge bridges as they were placed. No
-- access link is full, and at their edge bridges the streams are a good plan. `latency --strict` says so, from the hand-over at the talkers
pub record IsReadPlan (limits : Limits) (streams : List SettledStream) (d : Domain) (flows : List FlowText) (text : List ℕ) : Type 0 where
  pub network : NetworkDomain
  pub found : List NetworkFlowText
  pub reads : ReadsAs limits text network found
  pub domain_is : domain_of network ≡ d
  pub edge : EdgeFlowsText
  pub at_edges : edge_flows network found ≡ Ok edge
  pub none_full : edge.full ≡ None
  pub part_is : open_edges_of_part network text ≡ Ok edge
  pub come : ComeAsPlaced d.cycle_time streams flows edge.flows
  pub good : IsGoodPlan d edge.flows
  pub strict : and_then (plan_from network edge) (latency_from_talkers true)
      ≡ Ok (text_of_latency (latencies_from d (held_in d good.entries 0) edge.deadlines edge.times))

-- each text that `plan` writes for the texts of a domain and of streams is read so, if their tables aren't nested deeper than the reader allows.
-- Candidates for the cycle time that are given have to be in their range, and at least one and at most 1,000
abbrev pub WrittenPlansReadBack : Type 0
WrittenPlansReadBack =
    (limits : Limits) (search : Search) (given : Option (List ℕ)) (domain_text streams_text text : List ℕ) (source : PlanSource) → IfSome given AreCandidates →
    planning_parts limits given domain_text streams_text ≡ Ok source → IsShallow source.domain_text → IsShallow source.streams_text → (plan : IsPlanText search source text) →
    IsReadPlan limits source.streams plan.domain plan.flows text

-- the offers at its edge bridge of a plan's stream whose phase was chosen are in the cycles in which the stream reserves, for every
-- seed and without one. This holds by the talker's clock, and by the edge bridge's, which may differ from it by as much as the domain's `sync`
abbrev pub ChosenStreamsComeInActiveCycles : Type 0
ChosenStreamsComeInActiveCycles =
    (network : NetworkDomain) (streams : List SettledStream) (search : Search) (d : Domain) (flows there : List FlowText) (index : ℕ) (stream : SettledStream) (one : FlowText)
    (until : ℕ) (seed : Option ℕ) (x : Offer) → IsPlanned network streams search d flows → ComeAsPlaced d.cycle_time streams flows there →
    slice_get streams index ≡ Some stream → slice_get there index ≡ Some one → is_chosen_on d.cycle_time stream ≡ true →
    Contains (offers_named one.0.0.name (offers_before until seed (map (sender_of d) there))) x → (at : ℕ) → x.at.0 ≤ at + d.sync → at ≤ x.at.0 + d.sync →
    is_active (pace_of (asked_in one)) 0 (cycle_of d at) ≡ true

-- an input is planned as a text says, by every search: it is a network file that has a plan, and the text of each of its plans has the
-- same table as the given one
pub record PlansTo (limits : Limits) (input text : List ℕ) : Type 0 where
  pub source : PlanSource
  pub is_input : planning_input limits None input ≡ Ok source
  pub some_plan : (tries : ℕ) (line : List ℕ) → IsUnplanned source.domain source.streams tries line → ⊥
  pub same_table : (search : Search) (again : List ℕ) → IsPlanText search source again → table_of again ≡ table_of text

-- a plan is planned as itself: `plan` finds a plan for each text that it wrote, as both parts of an input, and writes it with the same table. The
-- tables of the first file aren't nested deeper than the reader allows
abbrev pub PlansPlanThemselves : Type 0
PlansPlanThemselves =
    (limits : Limits) (search : Search) (given : Option (List ℕ)) (domain_text streams_text text : List ℕ) (source : PlanSource) → IfSome given AreCandidates →
    planning_parts limits given domain_text streams_text ≡ Ok source → IsShallow source.domain_text → IsShallow source.streams_text → IsPlanText search source text →
    (own : List ℕ) → two_parts (parts_of own) ≡ Ok (text, text) → PlansTo limits own text
