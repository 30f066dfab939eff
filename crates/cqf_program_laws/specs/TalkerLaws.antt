-- A plan keeps its word from the hand-over at the talker. What its station's other streams, other stations and administrators do changes nothing.
use Rattle.std.specs.Prelude.{ℕ, ◌≡◌, ◌⊎◌, ◌≤◌, List, Some, None, Ok, Contains, map, option_map, slice_get, true}
use Rattle.cqf_model.specs.Book.{Contents}
use Rattle.cqf_model.specs.declared.frames.Background.{Background}
use Rattle.cqf_model.specs.declared.frames.Offer.{Offer}
use Rattle.cqf_model.specs.declared.frames.Offered.{Offered}
use Rattle.cqf_model.specs.declared.limits.Limits.{Limits}
use Rattle.cqf_model.specs.declared.topology.Row.{Row}
use Rattle.cqf_model.specs.Domain.{IsAccepted}
use Rattle.cqf_model.specs.Headline.{IsAccountOf}
use Rattle.cqf_model.specs.History.{Act, Branch, Recorded, pace_of}
use Rattle.cqf_model.specs.HistoryBook.{run_of_history}
use Rattle.cqf_model.specs.Limits.{most_cycles}
use Rattle.cqf_model.specs.Loose.{slack_of}
use Rattle.cqf_model.specs.Network.{Network}
use Rattle.cqf_model.specs.Paces.{is_active}
use Rattle.cqf_model.specs.Run.{Run}
use Rattle.cqf_model.specs.Shift.{offer_cycle}
use Rattle.cqf_model.specs.Policing.{Carried}
use Rattle.cqf_laws_timing.specs.Covered.{IsAtItsEdge, own_offers}
use Rattle.cqf_laws_timing.specs.InTime.{IsBookOverList}
use Rattle.cqf_laws_timing.specs.LooseStreams.{IsLooseHistory}
use Rattle.cqf_laws_timing.specs.Streams.{AdmitsOnly}
use Rattle.cqf_laws_timing.specs.Traffic.{offers_named}
use Rattle.cqf_traffic.specs.FlowsText.{FlowText}
use Rattle.cqf_traffic.specs.TrafficText.{promise_of}
use Rattle.cqf_network.specs.declared.domain.TalkerLink.{TalkerLink}
use Rattle.cqf_network.specs.NetworkFlows.{NetworkFlowText}
use Rattle.cqf_network.specs.NetworkDomain.{NetworkDomain}
use Rattle.cqf_access.specs.Access.{AccessStream, Crossing, IsSent, Other, promises_of}
use Rattle.cqf_access.specs.Arriving.{AreArrivals, Arrives}
use Rattle.cqf_access.specs.Closer.{AreInTurn}
use Rattle.cqf_edge.specs.declared.uses.Handed.{Handed}
use Rattle.cqf_edge.specs.Edge.{delays_of}
use Rattle.cqf_edge.specs.EdgeFlows.{EdgeFlowsText, edge_flows}
use Rattle.cqf_edge.specs.EdgeLaws.{link_used}
use Rattle.cqf_edge.specs.Uses.{handed_to, promises_in}
use Rattle.cqf_program_offers.specs.OffersOutput.{asked_in}
use Rattle.cqf_program_scenario.specs.Books.{IsBookOfScenario}
use Rattle.cqf_program_scenario.specs.Closing.{MayBeRun}
use Rattle.cqf_program_scenario.specs.Networks.{domain_of}
use Rattle.cqf_program_scenario.specs.Opening.{opening_history}
use Rattle.cqf_program_scenario.specs.Parting.{AreCommandsAfter}
use Rattle.cqf_program_scenario.specs.Scenario.{Scenario}
use Rattle.cqf_program_runs.specs.Deliveries.PlannedScenario.{planned_scenario, run_of_scenario}
use Rattle.cqf_program_laws.specs.PlanLaws.{ComesAsPromised, IsHeardLoosely, IsKeptPlan, PlanKeepsItsWord}

-- ---- what a station does

-- a stream of a network's file that is handed to an access link: in the file, at its edge bridge, what is handed over, and the link
pub record IsByAccess (network : NetworkDomain) (found : List NetworkFlowText) (edge : EdgeFlowsText) (stream : ℕ) (one : NetworkFlowText) (flow : FlowText)
    (handed : Handed) (link : TalkerLink) : Type 0 where
  pub there : slice_get found stream ≡ Some one
  pub at_edge : slice_get edge.flows stream ≡ Some flow
  pub hands : slice_get edge.handed stream ≡ Some (Some handed)
  pub is_link : slice_get network.talkers handed.index ≡ Some link

-- what the station sends by that link. Of each stream of the file that is handed to the link and promises something, it hands over frames as
-- promised; at most one other frame at a time is under way, which no stream promises, and none of these is larger than the link allows. It sends
-- frames in any order, those of one stream one after the other, and it is never idle while one of a stream waits
pub record UsesAccess (edge : EdgeFlowsText) (handed : Handed) (link : TalkerLink) (streams : List AccessStream) (others : List Other) : Type 0 where
  pub sent : IsSent (link_used edge handed link) streams others
  pub in_turn : (s : AccessStream) → Contains streams s → AreInTurn (link_used edge handed link) s.crossings
  pub promises : promises_of streams ≡ promises_in (handed_to handed.index edge.handed)

-- what it hands over of the stream: by the promise of the file, and none of its frames is shorter than the file says
pub record IsHandedOver (one : NetworkFlowText) (handed : Handed) (streams : List AccessStream) (s : AccessStream) : Type 0 where
  pub is_stream : Contains streams s
  pub promise : option_map promise_of one.flow.1 ≡ Some s.promise
  pub shortest : (x : Crossing) → Contains s.crossings x → handed.shortest ≤ x.frame.octets

-- what is offered of the stream at its edge bridge is what comes by the link of these frames. Hand-overs and offers are by one clock
abbrev pub ComesByAccess : EdgeFlowsText → Handed → TalkerLink → AccessStream → List Offer → Type 0
ComesByAccess edge handed link s offers = AreArrivals (link_used edge handed link) (delays_of link) 0 s.crossings offers

-- these are all offers of the stream's name; or its own offers, if others may offer its name too, at another bridge or while the stream isn't live
abbrev pub AreOffersOf : Run → FlowText → Row → List Offer → Type 0
AreOffersOf run flow row offers = (offers ≡ offers_named flow.0.0.name run.offers) ⊎ (offers ≡ own_offers run row.no)

-- a frame that is handed over, at a place among those of its stream, comes as an offer in a cycle of the stream, at its edge bridge, while the stream
-- is live
pub record IsOfferedThere (run : Run) (edge : EdgeFlowsText) (handed : Handed) (link : TalkerLink) (flow : FlowText) (row : Row) (s : AccessStream)
    (index : ℕ) (x : Crossing) (o : Offered) : Type 0 where
  pub crossing : slice_get s.crossings index ≡ Some x
  pub arrives : Arrives (link_used edge handed link) (delays_of link) 0 s.crossings index o.offer
  pub name : row.name ≡ flow.0.0.name
  pub at_edge : IsAtItsEdge run o row
  pub in_turn : is_active (pace_of (asked_in flow)) 0 (offer_cycle run.domain o) ≡ true

-- all of these together
pub record IsHandedInRun (network : NetworkDomain) (found : List NetworkFlowText) (run : Run) (edge : EdgeFlowsText) (one : NetworkFlowText) (flow : FlowText)
    (row : Row) (x : Crossing) (o : Offered) (offers : List Offer) : Type 0 where
  pub stream : ℕ
  pub handed : Handed
  pub link : TalkerLink
  pub by_access : IsByAccess network found edge stream one flow handed link
  pub streams : List AccessStream
  pub others : List Other
  pub uses : UsesAccess edge handed link streams others
  pub s : AccessStream
  pub over : IsHandedOver one handed streams s
  pub comes : ComesByAccess edge handed link s offers
  pub index : ℕ
  pub offered : IsOfferedThere run edge handed link flow row s index x o

-- ---- what the network promises

-- in the book of a run each such frame is covered, which means that it isn't dropped, and at each listener that the plan has for its stream it is
-- whole within the deadline that the file says after it was handed over, if the run is long enough
abbrev pub NetworkKeepsItsWord : NetworkDomain → List NetworkFlowText → EdgeFlowsText → Run → ℕ → Contents → Type 0
NetworkKeepsItsWord network found edge run cycles book =
    (one : NetworkFlowText) (flow : FlowText) (row : Row) (x : Crossing) (o : Offered) (offers : List Offer) →
    IsHandedInRun network found run edge one flow row x o offers → AreOffersOf run flow row offers →
    ComesAsPromised run edge.flows flow cycles book o row x.frame.at.0 one.flow.0.1

-- if no access link is full, this follows from what the plan promises at edge bridges
abbrev pub WordsHoldFromTalkers : Type 0
WordsHoldFromTalkers =
    (network : NetworkDomain) (found : List NetworkFlowText) (edge : EdgeFlowsText) (run : Run) (cycles : ℕ) (book : Contents) →
    edge_flows network found ≡ Ok edge → edge.full ≡ None → IsAccepted run.domain → PlanKeepsItsWord run edge.flows cycles book →
    NetworkKeepsItsWord network found edge run cycles book

-- the streams of a network's file, if no access link is full and all streams keep the plan's word at their edge bridges
pub record IsKeptNetwork (network : NetworkDomain) (found : List NetworkFlowText) (edge : EdgeFlowsText) : Type 0 where
  pub at_edges : edge_flows network found ≡ Ok edge
  pub none_full : edge.full ≡ None
  pub kept : IsKeptPlan (domain_of network) edge.flows

-- so such a network keeps its word in the book of each history that admits streams of the plan alone, with any withdrawals, any offers of others and
-- any background frames
abbrev pub NetworksKeepTheirWord : Type 0
NetworksKeepTheirWord =
    (network : NetworkDomain) (found : List NetworkFlowText) (edge : EdgeFlowsText) (entries : List Recorded) (offers : List Offer)
    (background : List Background) (cycles : ℕ) (book : Contents) → IsKeptNetwork network found edge →
    IsBookOverList (domain_of network) (map asked_in edge.flows) entries offers background cycles book →
    NetworkKeepsItsWord network found edge (run_of_history (domain_of network) entries offers background cycles) cycles book

-- a scenario over the network and its streams, within limits, that may be run in its domain
pub record IsScenarioOver (limits : Limits) (cycles : ℕ) (input : List ℕ) (network : NetworkDomain) (edge : EdgeFlowsText) (s : Scenario) : Type 0 where
  pub read : planned_scenario limits cycles input ≡ Ok (s, map (λ (flow : FlowText). flow.0) edge.flows)
  pub domain_is : s.domain ≡ domain_of network
  pub accepted : IsAccepted s.domain
  pub may : MayBeRun cycles s

-- in the book of each such scenario
abbrev pub NetworksKeepTheirWordToScripts : Type 0
NetworksKeepTheirWordToScripts =
    (limits : Limits) (cycles : ℕ) (input : List ℕ) (network : NetworkDomain) (found : List NetworkFlowText) (edge : EdgeFlowsText) (s : Scenario)
    (book : Contents) → cycles ≤ most_cycles → IsKeptNetwork network found edge → IsScenarioOver limits cycles input network edge s →
    IsBookOfScenario cycles s book → NetworkKeepsItsWord network found edge (run_of_scenario cycles s) cycles book

-- and in the book of each account of its run on threads
abbrev pub NetworksKeepTheirWordOnThreads : Type 0
NetworksKeepTheirWordOnThreads =
    (limits : Limits) (cycles : ℕ) (input : List ℕ) (network : NetworkDomain) (found : List NetworkFlowText) (edge : EdgeFlowsText) (s : Scenario)
    (entries : List Recorded) (asked : List (List Act)) (book : Contents) → IsKeptNetwork network found edge →
    IsScenarioOver limits cycles input network edge s → AreCommandsAfter s.calls s.sealer asked →
    IsAccountOf s.domain (opening_history s) s.offers s.background cycles asked entries book →
    NetworkKeepsItsWord network found edge (run_of_history s.domain entries s.offers s.background cycles) cycles book

-- in every loose network of such a history, with the slack that the domain states, each such frame is heard at each of its stream's listeners, by
-- the clock there, within the deadline that the file says after it was handed over, by the edge bridge's clock
abbrev pub NetworksKeepTheirWordLoosely : Type 0
NetworksKeepTheirWordLoosely =
    (network : NetworkDomain) (found : List NetworkFlowText) (edge : EdgeFlowsText) (entries : List Recorded) (offers : List Offer)
    (background : List Background) (cycles : ℕ) (net : Network) (heard : Carried) → IsKeptNetwork network found edge →
    IsLooseHistory (domain_of network) entries offers background cycles (slack_of (domain_of network)) net heard →
    AdmitsOnly (map asked_in edge.flows) entries → (one : NetworkFlowText) (flow : FlowText) (row : Row) (x : Crossing) (o : Offered) →
    IsHandedInRun network found (run_of_history (domain_of network) entries offers background cycles) edge one flow row x o
    (offers_named flow.0.0.name offers) →
    (branch : Branch) → Contains flow.0.0.paths branch →
    IsHeardLoosely (domain_of network) (map asked_in edge.flows) (asked_in flow) cycles net heard o branch x.frame.at.0 one.flow.0.1
