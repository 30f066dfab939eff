-- What a plan promises at edge bridges, its network promises from the hand-over at the talker.
use Rattle.std.proofs.Common.{◌≡◌, ◌∙◌, ◌+◌, ◌-◌, ◌*◌, ◌<◌, ◌≤◌, ℕ, List, Ok, Option, Some, None, Contains, ap, arith, inl, inr, length, map, refl, subst, subst₂, sym}
use Rattle.std.specs.Prelude.{option_map, slice_get}
use Rattle.std.specs.Option.{ForSome}
use Rattle.std.proofs.lemmas.List.Elements.{All-contains}
use Rattle.std.proofs.lemmas.Option.{same_Some, slice_get_within}
use Rattle.cqf_lists.proofs.Members.{contains_at, contains_map}
use Rattle.cqf_units.specs.Timing.{time_of}
use Rattle.cqf_model.specs.declared.frames.Offer.{Offer}
use Rattle.cqf_model.specs.declared.frames.Offered.{Offered}
use Rattle.cqf_model.specs.declared.topology.Link.{Link}
use Rattle.cqf_model.specs.declared.topology.Node.{Node}
use Rattle.cqf_model.specs.declared.topology.Node.TheVariants.{Station}
use Rattle.cqf_model.specs.declared.topology.Row.{Row}
use Rattle.cqf_model.specs.Book.{Contents}
use Rattle.cqf_model.specs.Domain.{Domain, IsAccepted, end_of, least_delay_of, octet_time_of}
use Rattle.cqf_model.specs.History.{Asked, Branch}
use Rattle.cqf_model.specs.HistoryBook.{run_of_history}
use Rattle.cqf_model.specs.Network.{Network}
use Rattle.cqf_model.specs.Run.{Run}
use Rattle.cqf_model.specs.Policing.{Carried, whole_at}
use Rattle.cqf_model.proofs.Links.{least_long}
use Rattle.cqf_laws_timing.specs.Latency.{least_of, whole_of}
use Rattle.cqf_laws_timing.specs.Traffic.{Conforms, IsTraffic, Traffic, offers_named}
use Rattle.cqf_traffic.specs.FlowsText.{FlowText}
use Rattle.cqf_traffic.specs.TrafficText.{TrafficText, promise_of}
use Rattle.cqf_network.specs.declared.domain.TalkerLink.{TalkerLink}
use Rattle.cqf_network.specs.NetworkFlows.{NetworkFlowText}
use Rattle.cqf_network.specs.NetworkDomain.{NetworkDomain}
use Rattle.cqf_access.specs.declared.edge.Delays.{Delays}
use Rattle.cqf_access.specs.Access.{AccessLink, Crossing, IsBound, handed as handed_over, promises_of, taken_of}
use Rattle.cqf_access.specs.Arriving.{FramesAreWholeWithin, travel_time}
use Rattle.cqf_access.specs.Closer.{EdgeConformsCloser, closer_at_edge}
use Rattle.cqf_access.proofs.Arrivals.{longer_travel}
use Rattle.cqf_edge.specs.declared.edge.AccessTimes.{AccessTimes}
use Rattle.cqf_edge.specs.Edge.{delays_of, left_after, left_by}
use Rattle.cqf_edge.specs.EdgeFlows.{EdgeFlowsText, edge_flows}
use Rattle.cqf_edge.specs.EdgeLaws.{ComesByLink, KeepsWord, StreamsComeByLinks, link_used}
use Rattle.cqf_program_scenario.specs.Networks.{domain_of}
use Rattle.cqf_program_offers.specs.OffersOutput.{asked_in}
use Rattle.cqf_program_runs.specs.Deliveries.PlannedScenario.{run_of_scenario}
use Rattle.cqf_program_laws.specs.PlanLaws.{IsHeardLoosely, IsHeardWithin, IsKeptPlan, IsPromised}
use Rattle.cqf_program_laws.specs.PlanLaws.{PlansKeepTheirWord, PlansKeepTheirWordLoosely, PlansKeepTheirWordOnThreads, PlansKeepTheirWordToScripts}
use Rattle.cqf_program_laws.specs.TalkerLaws.{AreOffersOf, IsHandedInRun, NetworksKeepTheirWord, NetworksKeepTheirWordLoosely}
use Rattle.cqf_program_laws.specs.TalkerLaws.{NetworksKeepTheirWordOnThreads, NetworksKeepTheirWordToScripts, WordsHoldFromTalkers}

-- ---- deadlines

-- a frame takes some time to the end of a link
some_time : (cycles shortest least sync : ℕ) → sync ≤ shortest + least → 0 < (cycles + 1 + shortest + least) - sync
some_time cycles shortest least sync short = omega (arith, short)

link_there : (d : Domain) (link : ℕ) (node : Node) → end_of d link ≡ Some node → link < length d.links
link_there d link node is = by (slice_get d.links link) refl is
  where
    by : (o : Option Link) → slice_get d.links link ≡ o → option_map (λ (l : Link). l.to) o ≡ Some node → link < length d.links
    by None at ends = absurd (cc)
    by (Some l) at ends = slice_get_within d.links link l at

pub least_is_some : (d : Domain) (link hop_number : ℕ) (node : Node) → IsAccepted d → end_of d link ≡ Some node → 0 < least_of d link hop_number
least_is_some d link hop_number node accepted ends =
    some_time ((hop_number - 1) * d.cycle_time) (time_of 72 (octet_time_of d link)) (least_delay_of d link) d.sync
    (least_long d link accepted (link_there d link node ends))

-- a frame that is whole within what is left of a deadline, and takes some time, is whole within the deadline from the hand-over
since_handed : (at handed most wished whole least : ℕ) → at ≤ handed + most → at + least ≤ whole → 0 < least → whole ≤ at + (wished - most) →
    whole ≤ handed + wished
since_handed at handed most wished whole least late takes some within = omega (arith, late, takes, some, within)

is_within : (at handed : ℕ) (times : AccessTimes) (left written : Option ℕ) (whole least : ℕ) → left ≡ option_map (left_after times) written →
    at ≤ handed + times.most → at + least ≤ whole → 0 < least → ForSome left (λ (most : ℕ). whole ≤ at + most) →
    ForSome written (λ (most : ℕ). whole ≤ handed + most)
is_within at handed times left written whole least is late takes some within wished deadline =
    since_handed at handed times.most wished whole least late takes some
    (within (wished - times.most) (is ∙ ap (option_map (left_after times)) deadline))

-- ---- a frame that is handed over

-- traffic by its promise
pub promised_by : (o : Option TrafficText) (p : Traffic) → option_map promise_of o ≡ Some p → (t : TrafficText) × (o ≡ Some t) × (promise_of t ≡ p)
promised_by None p h = absurd (cc)
promised_by (Some t) p h = (t, refl, same_Some (promise_of t) p h)

module _ (waits : FramesAreWholeWithin) (closer : EdgeConformsCloser) (come : StreamsComeByLinks) (network : NetworkDomain) (found : List NetworkFlowText)
    (edge : EdgeFlowsText) (run : Run) (at_edges : edge_flows network found ≡ Ok edge) (none_full : edge.full ≡ None) (one : NetworkFlowText)
    (flow : FlowText) (row : Row) (x : Crossing) (o : Offered) (offers : List Offer) (h : IsHandedInRun network found run edge one flow row x o offers) where
  abbrev link : AccessLink
  link = link_used edge h.handed h.link

  abbrev delays : Delays
  delays = delays_of h.link

  -- the stream at its edge bridge
  pub by_link : ComesByLink network edge h.stream one h.handed
  by_link = come network found edge h.stream one h.handed at_edges h.by_access.there h.by_access.hands

  same_link : by_link.link ≡ h.link
  same_link = same_Some by_link.link h.link (sym by_link.is_link ∙ h.by_access.is_link)

  same_flow : by_link.flow ≡ flow
  same_flow = same_Some by_link.flow flow (sym by_link.at_edge ∙ h.by_access.at_edge)

  -- what its talker promises, and its word there
  abbrev pub promise : (t : TrafficText) × (one.flow.1 ≡ Some t) × (promise_of t ≡ h.s.promise)
  promise = promised_by one.flow.1 h.s.promise h.over.promise

  pub keeps : KeepsWord edge h.handed h.link flow.1 by_link.times promise.0
  keeps =
      subst₂ (λ (l : TalkerLink) (f : FlowText). KeepsWord edge h.handed l f.1 by_link.times promise.0) same_link same_flow
      (by_link.word none_full promise.0 promise.1)

  -- so the times of its frames are known, and its deadline there
  abbrev pub times : AccessTimes
  times = keeps.taken

  left : flow.0.1 ≡ option_map (left_after times) one.flow.0.1
  left =
      subst (λ (f : FlowText). f.0.1 ≡ left_by by_link.times one.flow.0.1) same_flow by_link.left
      ∙ ap (λ (o : Option AccessTimes). left_by o one.flow.0.1) keeps.are_taken

  is_bound : IsBound link (promises_of h.streams) keeps.bound
  is_bound = subst (λ (ps : List Traffic). IsBound link ps keeps.bound) (sym h.uses.promises) keeps.is_bound

  word : promise_of keeps.there ≡ closer_at_edge link delays keeps.bound h.handed.shortest h.s.promise
  word = keeps.word ∙ ap (closer_at_edge link delays keeps.bound h.handed.shortest) promise.2

  conforms : Conforms (promise_of keeps.there) offers
  conforms =
      subst (λ (p : Traffic). Conforms p offers) (sym word)
      (closer link h.streams h.others delays keeps.bound h.handed.shortest h.s offers h.uses.sent (h.uses.in_turn h.s h.over.is_stream) is_bound
      h.over.is_stream h.over.shortest h.comes)

  traffic : IsTraffic (promise_of keeps.there)
  traffic =
      let own = h.uses.sent.promised h.s h.over.is_stream in
      subst IsTraffic (sym word) (record { some_interval = own.some_interval; some_frames = own.some_frames })

  -- so its frame is promised
  pub is_promised : AreOffersOf run flow row offers → IsPromised run edge.flows flow keeps.there o row
  is_promised of = record {
    listed = contains_at edge.flows h.stream flow h.by_access.at_edge;
    has = keeps.is_there;
    is_traffic = traffic;
    name = h.offered.name;
    at_edge = h.offered.at_edge;
    in_turn = h.offered.in_turn;
    keeps = elim of [
      | inl is ↦ inl (subst (λ (xs : List Offer). Conforms (promise_of keeps.there) xs) is conforms)
      | inr is ↦ inr (subst (λ (xs : List Offer). Conforms (promise_of keeps.there) xs) is conforms)
    ];
  }

  pub named_conform : (xs : List Offer) → offers ≡ xs → Conforms (promise_of keeps.there) xs
  named_conform xs is = subst (λ (ys : List Offer). Conforms (promise_of keeps.there) ys) is conforms

  -- and comes no later than the link allows
  same_crossing : h.offered.arrives.crossing ≡ x
  same_crossing = same_Some h.offered.arrives.crossing x (sym h.offered.arrives.there ∙ h.offered.crossing)

  is_crossing : Contains h.s.crossings x
  is_crossing = contains_at h.s.crossings h.index x h.offered.crossing

  not_longer : x.frame.octets ≤ h.s.promise.size
  not_longer =
      All-contains (λ (y : Offer). y.octets ≤ h.s.promise.size) (handed_over h.s) x.frame (h.uses.sent.kept h.s h.over.is_stream).sizes
      (contains_map (λ (y : Crossing). y.frame) h.s.crossings x is_crossing)

  in_time : (size wait most at : ℕ) → size ≡ h.s.promise.size → most ≡ travel_time link h.link.delay size + wait →
      at ≤ x.frame.at.0 + travel_time link h.link.delay x.frame.octets + wait → o.offer.at.0 ≤ at + 0 → o.offer.at.0 ≤ x.frame.at.0 + most
  in_time size wait most at same is late clock =
      let short : x.frame.octets ≤ size = subst (λ (n : ℕ). x.frame.octets ≤ n) (sym same) not_longer in
      let path = longer_travel link h.link.delay x.frame.octets size short in
      no_later (travel_time link h.link.delay x.frame.octets) (travel_time link h.link.delay size) path is late clock
    where
      no_later : (own longest : ℕ) → own ≤ longest → most ≡ longest + wait → at ≤ x.frame.at.0 + own + wait → o.offer.at.0 ≤ at + 0 →
          o.offer.at.0 ≤ x.frame.at.0 + most
      no_later own longest a b e f = omega (arith, a, b, e, f)

  pub comes_by : o.offer.at.0 ≤ x.frame.at.0 + times.most
  comes_by =
      let a = h.offered.arrives in
      let within = subst (λ (c : Crossing). a.at ≤ c.frame.at.0 + travel_time link h.link.delay c.frame.octets + (keeps.bound - taken_of link h.s.promise.size))
      same_crossing
      (waits link h.streams h.others delays keeps.bound h.s a.crossing a.at h.uses.sent is_bound h.over.is_stream
      (contains_at h.s.crossings h.index a.crossing a.there) a.whole).most in
      in_time promise.0.size (keeps.bound - taken_of link promise.0.size) times.most a.at size keeps.most
      (subst (λ (n : ℕ). a.at ≤ x.frame.at.0 + travel_time link h.link.delay x.frame.octets + (keeps.bound - taken_of link n)) (sym size) within)
      a.clocks.no_sooner
    where
      size : promise.0.size ≡ h.s.promise.size
      size = ap (λ (p : Traffic). p.size) promise.2

  -- a deadline from the edge bridge on, and from the hand-over
  pub written_within : (whole least : ℕ) → o.offer.at.0 + least ≤ whole → 0 < least → ForSome flow.0.1 (λ (most : ℕ). whole ≤ o.offer.at.0 + most) →
      ForSome one.flow.0.1 (λ (most : ℕ). whole ≤ x.frame.at.0 + most)
  written_within whole least takes some within =
      is_within o.offer.at.0 x.frame.at.0 times flow.0.1 one.flow.0.1 whole least left comes_by takes some within

-- ---- in a book

-- what is heard within one deadline after one instant is heard within another after another
heard_since : (d : Domain) (streams : List Asked) (asked : Asked) (cycles : ℕ) (book : Contents) (x : Offered) (branch : Branch) (since other : ℕ)
    (deadline written : Option ℕ) → IsAccepted d →
    ((whole least : ℕ) → x.offer.at.0 + least ≤ whole → 0 < least → ForSome deadline (λ (most : ℕ). whole ≤ since + most) →
    ForSome written (λ (most : ℕ). whole ≤ other + most)) →
    IsHeardWithin d streams asked cycles book x branch since deadline → IsHeardWithin d streams asked cycles book x branch other written
heard_since d streams asked cycles book x branch since other deadline written accepted follows heard = record {
  bridges = heard.bridges;
  link = heard.link;
  station = heard.station;
  ends_at = heard.ends_at;
  arrives = λ lasts.
      let a = heard.arrives lasts in
      record {
        arrival = a.arrival;
        within = follows (whole_of d a.arrival.start) (least_of d heard.link heard.bridges) a.arrival.timely.least
            (least_is_some d heard.link heard.bridges (Station heard.station) accepted heard.ends_at.ends) a.within;
      };
}

pub words_hold_from_talkers : FramesAreWholeWithin → EdgeConformsCloser → StreamsComeByLinks → WordsHoldFromTalkers
words_hold_from_talkers waits closer come network found edge run cycles book at_edges none_full accepted plan one flow row x o offers h of =
    let came = plan flow _ o row (is_promised waits closer come network found edge run at_edges none_full one flow row x o offers h of) in
    record {
      covered = came.covered;
      through = came.through;
      heard = λ branch c.
          heard_since run.domain (map asked_in edge.flows) (asked_in flow) cycles book o branch o.offer.at.0 x.frame.at.0 flow.0.1 one.flow.0.1 accepted
          (written_within waits closer come network found edge run at_edges none_full one flow row x o offers h) (came.heard branch c);
    }

-- of a history, of a script, and of an account
pub networks_keep_their_word : WordsHoldFromTalkers → PlansKeepTheirWord → NetworksKeepTheirWord
networks_keep_their_word words plans network found edge entries offers background cycles book kept over =
    words network found edge (run_of_history (domain_of network) entries offers background cycles) cycles book kept.at_edges kept.none_full over.accepted
    (plans (domain_of network) edge.flows entries offers background cycles book kept.kept over)

pub networks_keep_their_word_to_scripts : WordsHoldFromTalkers → PlansKeepTheirWordToScripts → NetworksKeepTheirWordToScripts
networks_keep_their_word_to_scripts words plans limits cycles input network found edge s book short kept over is =
    words network found edge (run_of_scenario cycles s) cycles book kept.at_edges kept.none_full over.accepted
    (plans limits cycles input s edge.flows book short over.read over.accepted over.may
    (subst (λ (d : Domain). IsKeptPlan d edge.flows) (sym over.domain_is) kept.kept) is)

pub networks_keep_their_word_on_threads : WordsHoldFromTalkers → PlansKeepTheirWordOnThreads → NetworksKeepTheirWordOnThreads
networks_keep_their_word_on_threads words plans limits cycles input network found edge s entries asked book kept over commands account =
    words network found edge (run_of_history s.domain entries s.offers s.background cycles) cycles book kept.at_edges kept.none_full over.accepted
    (plans limits cycles input s edge.flows entries asked book over.read over.accepted over.may
    (subst (λ (d : Domain). IsKeptPlan d edge.flows) (sym over.domain_is) kept.kept) commands account)

-- ---- in a loose network

loosely_since : (d : Domain) (streams : List Asked) (asked : Asked) (cycles : ℕ) (net : Network) (heard : Carried) (x : Offered) (branch : Branch)
    (since other : ℕ) (deadline written : Option ℕ) → IsAccepted d →
    ((whole least : ℕ) → x.offer.at.0 + least ≤ whole → 0 < least → ForSome deadline (λ (most : ℕ). whole ≤ since + most) →
    ForSome written (λ (most : ℕ). whole ≤ other + most)) →
    IsHeardLoosely d streams asked cycles net heard x branch since deadline → IsHeardLoosely d streams asked cycles net heard x branch other written
loosely_since d streams asked cycles net heard x branch since other deadline written accepted follows is = record {
  bridges = is.bridges;
  link = is.link;
  station = is.station;
  ends_at = is.ends_at;
  hears = λ lasts.
      let a = is.hears lasts in
      record {
        hearing = a.hearing;
        within = follows (whole_at d is.link a.hearing.h) (least_of d is.link is.bridges) a.hearing.timely.least
            (least_is_some d is.link is.bridges (Station is.station) accepted is.ends_at.ends) a.within;
      };
}

pub networks_keep_their_word_loosely : FramesAreWholeWithin → EdgeConformsCloser → StreamsComeByLinks → PlansKeepTheirWordLoosely →
    NetworksKeepTheirWordLoosely
networks_keep_their_word_loosely waits closer come plans network found edge entries offers background cycles net heard kept loose only one flow row x o h branch
    c =
    let d = domain_of network in
    let run = run_of_history d entries offers background cycles in
    let named = offers_named flow.0.0.name offers in
    let promised = is_promised waits closer come network found edge run kept.at_edges kept.none_full one flow row x o named h (inl refl) in
    let conform = named_conform waits closer come network found edge run kept.at_edges kept.none_full one flow row x o named h named refl in
    loosely_since d (map asked_in edge.flows) (asked_in flow) cycles net heard o branch o.offer.at.0 x.frame.at.0 flow.0.1 one.flow.0.1 loose.accepted
    (written_within waits closer come network found edge run kept.at_edges kept.none_full one flow row x o named h)
    (plans d edge.flows entries offers background cycles net heard kept.kept loose only flow _ o row promised conform branch c)
