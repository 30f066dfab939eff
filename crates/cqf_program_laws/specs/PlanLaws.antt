-- A written plan keeps its word: of a stream whose talker keeps its own word, no frame is lost and none is late.
use Rattle.std.specs.Prelude.{ℕ, ◌≡◌, ◌⊎◌, ◌+◌, ◌<◌, ◌≤◌, List, [], All, Contains, false, map, Option, Some, Ok, true}
use Rattle.std.specs.Option.{ForSome}
use Rattle.cqf_model.specs.declared.frames.Background.{Background}
use Rattle.cqf_model.specs.declared.frames.Offer.{Offer}
use Rattle.cqf_model.specs.declared.frames.Offered.{Offered}
use Rattle.cqf_model.specs.declared.limits.Limits.{Limits}
use Rattle.cqf_model.specs.declared.topology.Row.{Row}
use Rattle.cqf_model.specs.Book.{Contents}
use Rattle.cqf_model.specs.Domain.{Domain, IsAccepted}
use Rattle.cqf_model.specs.Headline.{IsAccountOf}
use Rattle.cqf_model.specs.History.{Act, Asked, Branch, Recorded, held_in, pace_of}
use Rattle.cqf_model.specs.HistoryBook.{run_of_history}
use Rattle.cqf_model.specs.Limits.{most_cycles}
use Rattle.cqf_model.specs.Loose.{slack_of}
use Rattle.cqf_model.specs.Network.{Network}
use Rattle.cqf_model.specs.Paces.{is_active}
use Rattle.cqf_model.specs.Run.{Run}
use Rattle.cqf_model.specs.Shift.{IsCovered, offer_cycle}
use Rattle.cqf_model.specs.Policing.{Carried, whole_at}
use Rattle.cqf_laws_timing.specs.Latency.{whole_of}
use Rattle.cqf_laws_timing.specs.Listeners.{EndsAtListener}
use Rattle.cqf_laws_timing.specs.Covered.{IsAtItsEdge, own_offers}
use Rattle.cqf_laws_timing.specs.InTime.{ArrivesInTime, ComesThrough, IsBookOverList}
use Rattle.cqf_laws_timing.specs.LooseInTime.{IsHeardInTime}
use Rattle.cqf_laws_timing.specs.LooseStreams.{IsLooseHistory}
use Rattle.cqf_laws_timing.specs.Streams.{AdmitsOnly}
use Rattle.cqf_laws_timing.specs.Traffic.{Conforms, IsTraffic, needed, offers_named}
use Rattle.cqf_traffic.specs.FlowsText.{FlowText}
use Rattle.cqf_traffic.specs.TrafficText.{TrafficText, promise_of}
use Rattle.cqf_program_scenario.specs.Books.{IsBookOfScenario}
use Rattle.cqf_program_scenario.specs.Closing.{MayBeRun}
use Rattle.cqf_program_scenario.specs.Opening.{opening_history}
use Rattle.cqf_program_scenario.specs.Parting.{AreCommandsAfter}
use Rattle.cqf_program_scenario.specs.Scenario.{Scenario}
use Rattle.cqf_program_plans.specs.declared.latency.latencies.Latency.{Latency}
use Rattle.cqf_program_plans.specs.Compile.Output.{admitted_from}
use Rattle.cqf_program_plans.specs.Latency.Text.{is_not_sure, latencies_of}
use Rattle.cqf_program_offers.specs.OffersOutput.{asked_in}
use Rattle.cqf_program_runs.specs.Deliveries.PlannedScenario.{planned_scenario, run_of_scenario}

-- what each written plan has: its streams are all admitted before cycle 0, each reserves what its talker needs in a cycle, and no frame of
-- theirs may miss its deadline
pub record IsKeptPlan (d : Domain) (flows : List FlowText) : Type 0 where
  pub entries : List Recorded
  pub admitted : admitted_from d [] 1 (map asked_in flows) ≡ Ok entries
  pub enough : All (λ (flow : FlowText). ForSome flow.1 (λ (t : TrafficText). needed d.overhead d.cycle_time (promise_of t) ≤ flow.0.0.octets)) flows
  pub in_time : All (λ (latency : Latency). is_not_sure latency ≡ false)
      (latencies_of d (held_in d entries 0) (map (λ (flow : FlowText). flow.0.1) flows))

-- a frame that the plan promises: it is offered of a stream of the plan at its edge bridge, in a cycle in which the stream is offered,
-- while a row of the stream's name is live. Its talker keeps its word, either in all offers of that name, or in the stream's own offers
pub record IsPromised (run : Run) (flows : List FlowText) (flow : FlowText) (t : TrafficText) (x : Offered) (row : Row) : Type 0 where
  pub listed : Contains flows flow
  pub has : flow.1 ≡ Some t
  pub is_traffic : IsTraffic (promise_of t)
  pub name : row.name ≡ flow.0.0.name
  pub at_edge : IsAtItsEdge run x row
  pub in_turn : is_active (pace_of (asked_in flow)) 0 (offer_cycle run.domain x) ≡ true
  pub keeps : Conforms (promise_of t) (offers_named flow.0.0.name run.offers) ⊎ Conforms (promise_of t) (own_offers run row.no)

-- the frame leaves on a link with this hop number as many cycles after its own cycle, and is whole at the link's end within the plan's
-- bounds; and within the given deadline after an instant, if there is a deadline
pub record ArrivesWithin (d : Domain) (streams : List Asked) (asked : Asked) (book : Contents) (x : Offered) (hop_number link since : ℕ) (deadline : Option ℕ) : Type 0 where
  pub arrival : ArrivesInTime d streams asked book x hop_number link
  pub within : ForSome deadline (λ (most : ℕ). whole_of d arrival.start ≤ since + most)

-- the last link of a branch, after `bridges` bridges, ends in its listener's station, and the frame arrives there within the deadline, if
-- the run is long enough
pub record IsHeardWithin (d : Domain) (streams : List Asked) (asked : Asked) (cycles : ℕ) (book : Contents) (x : Offered) (branch : Branch)
    (since : ℕ) (deadline : Option ℕ) : Type 0 where
  pub bridges : ℕ
  pub link : ℕ
  pub station : ℕ
  pub ends_at : EndsAtListener d branch bridges link station
  pub arrives : offer_cycle d x + bridges < cycles → ArrivesWithin d streams asked book x bridges link since deadline

-- the frame is covered, so it isn't dropped and leaves on each link of its row's tree; and it arrives within the deadline at each listener
-- that the plan has for its stream
pub record ComesAsPromised (run : Run) (flows : List FlowText) (flow : FlowText) (cycles : ℕ) (book : Contents) (x : Offered) (row : Row) (since : ℕ)
    (deadline : Option ℕ) : Type 0 where
  pub covered : IsCovered run x row
  pub through : ComesThrough run.domain (map asked_in flows) cycles book x row
  pub heard : (branch : Branch) → Contains flow.0.0.paths branch →
      IsHeardWithin run.domain (map asked_in flows) (asked_in flow) cycles book x branch since deadline

-- a plan keeps its word in the book of a run over `cycles` cycles: each promised frame arrives within the plan's deadline after its offer
abbrev pub PlanKeepsItsWord : Run → List FlowText → ℕ → Contents → Type 0
PlanKeepsItsWord run flows cycles book =
    (flow : FlowText) (t : TrafficText) (x : Offered) (row : Row) → IsPromised run flows flow t x row →
    ComesAsPromised run flows flow cycles book x row x.offer.at.0 flow.0.1

-- a plan keeps its word in the book of each history that admits streams of the plan alone, with any withdrawals, any offers of others and
-- any background frames
abbrev pub PlansKeepTheirWord : Type 0
PlansKeepTheirWord =
    (d : Domain) (flows : List FlowText) (entries : List Recorded) (offers : List Offer) (background : List Background) (cycles : ℕ) (book : Contents) →
    IsKeptPlan d flows → IsBookOverList d (map asked_in flows) entries offers background cycles book →
    PlanKeepsItsWord (run_of_history d entries offers background cycles) flows cycles book

-- in a loose network the frame leaves on a link with this hop number as many cycles after its own cycle, and is whole at the link's end, by the
-- clock there, within the plan's bounds; and within the given deadline after an instant by the edge bridge's clock, if there is a deadline
pub record HearsWithin (d : Domain) (streams : List Asked) (asked : Asked) (net : Network) (heard : Carried) (x : Offered) (hop_number link since : ℕ)
    (deadline : Option ℕ) : Type 0 where
  pub hearing : IsHeardInTime d streams asked net heard x hop_number link
  pub within : ForSome deadline (λ (most : ℕ). whole_at d link hearing.h ≤ since + most)

-- the same at the listener of a branch, if the run is long enough
pub record IsHeardLoosely (d : Domain) (streams : List Asked) (asked : Asked) (cycles : ℕ) (net : Network) (heard : Carried) (x : Offered) (branch : Branch)
    (since : ℕ) (deadline : Option ℕ) : Type 0 where
  pub bridges : ℕ
  pub link : ℕ
  pub station : ℕ
  pub ends_at : EndsAtListener d branch bridges link station
  pub hears : offer_cycle d x + bridges < cycles → HearsWithin d streams asked net heard x bridges link since deadline

-- in every loose network of such a history, with the slack that the domain states, each promised frame is heard at each of its stream's
-- listeners within the plan's deadline after its offer, if the talker keeps its word in all offers of the stream's name
abbrev pub PlansKeepTheirWordLoosely : Type 0
PlansKeepTheirWordLoosely =
    (d : Domain) (flows : List FlowText) (entries : List Recorded) (offers : List Offer) (background : List Background) (cycles : ℕ) (net : Network)
    (heard : Carried) → IsKeptPlan d flows → IsLooseHistory d entries offers background cycles (slack_of d) net heard →
    AdmitsOnly (map asked_in flows) entries → (flow : FlowText) (t : TrafficText) (x : Offered) (row : Row) →
    IsPromised (run_of_history d entries offers background cycles) flows flow t x row → Conforms (promise_of t) (offers_named flow.0.0.name offers) →
    (branch : Branch) → Contains flow.0.0.paths branch →
    IsHeardLoosely d (map asked_in flows) (asked_in flow) cycles net heard x branch x.offer.at.0 flow.0.1

-- a plan keeps its word in the book of each script over the plan
abbrev pub PlansKeepTheirWordToScripts : Type 0
PlansKeepTheirWordToScripts =
    (limits : Limits) (cycles : ℕ) (input : List ℕ) (s : Scenario) (flows : List FlowText) (book : Contents) → cycles ≤ most_cycles →
    planned_scenario limits cycles input ≡ Ok (s, map (λ (flow : FlowText). flow.0) flows) → IsAccepted s.domain → MayBeRun cycles s →
    IsKeptPlan s.domain flows → IsBookOfScenario cycles s book → PlanKeepsItsWord (run_of_scenario cycles s) flows cycles book

-- and in the book of each account of such a script's run on threads
abbrev pub PlansKeepTheirWordOnThreads : Type 0
PlansKeepTheirWordOnThreads =
    (limits : Limits) (cycles : ℕ) (input : List ℕ) (s : Scenario) (flows : List FlowText) (entries : List Recorded) (asked : List (List Act))
    (book : Contents) →
    planned_scenario limits cycles input ≡ Ok (s, map (λ (flow : FlowText). flow.0) flows) → IsAccepted s.domain → MayBeRun cycles s →
    IsKeptPlan s.domain flows → AreCommandsAfter s.calls s.sealer asked →
    IsAccountOf s.domain (opening_history s) s.offers s.background cycles asked entries book →
    PlanKeepsItsWord (run_of_history s.domain entries s.offers s.background cycles) flows cycles book
