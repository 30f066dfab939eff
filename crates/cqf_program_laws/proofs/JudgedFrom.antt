-- What `latency` says of frames from their hand-over holds if it holds of them from their edge bridges.
use Rattle.std.proofs.Common.{◌≡◌, ◌∙◌, ◌+◌, ◌-◌, ◌<◌, ◌≤◌, ◌∷◌, [], ℕ, zero, suc, Bool, true, false, List, Option, Some, None, Ok}
use Rattle.std.proofs.Common.{ap, arith, length, lt-ltb, map, refl, subst, sym}
use Rattle.std.specs.Prelude.{if◌then◌else◌, nat_le, nat_lt, option_and_then, option_map, slice_get}
use Rattle.std.proofs.lemmas.Bool.{le-leb}
use Rattle.std.proofs.lemmas.Bool.Decides.{nat_tests}
use Rattle.std.proofs.lemmas.List.Elements.{All-contains}
use Rattle.std.proofs.lemmas.Option.{same_Some, slice_get_within}
use Rattle.cqf_lists.specs.Results.{and_then}
use Rattle.cqf_lists.proofs.Members.{contains_at, contains_flat, contains_from_filter, contains_from_map, contains_map}
use Rattle.cqf_units.specs.declared.timing.Nanos.{Nanos}
use Rattle.cqf_units.proofs.Times.{time_grows}
use Rattle.cqf_model.specs.declared.limits.Limits.{Limits}
use Rattle.cqf_model.specs.declared.topology.Hop.{Hop}
use Rattle.cqf_model.specs.declared.topology.Node.{Node}
use Rattle.cqf_model.specs.declared.topology.Row.{Row}
use Rattle.cqf_model.specs.Domain.{Domain, IsAccepted, end_of}
use Rattle.cqf_model.specs.History.{most_beside}
use Rattle.cqf_laws_timing.specs.Verdicts.{InTime, Late, MayBeLate, Sure, sure_of}
use Rattle.cqf_traffic.specs.FlowsText.{FlowText}
use Rattle.cqf_network.specs.declared.domain.TalkerLink.{TalkerLink}
use Rattle.cqf_network.specs.NetworkFlows.{NetworkFlowText}
use Rattle.cqf_network.specs.NetworkDomain.{IsNetwork, IsTalkerLink, NetworkDomain}
use Rattle.cqf_access.specs.Access.{AccessLink}
use Rattle.cqf_access.specs.Arriving.{travel_time}
use Rattle.cqf_access.specs.Bounding.{link_of}
use Rattle.cqf_edge.specs.declared.edge.AccessTimes.{AccessTimes}
use Rattle.cqf_edge.specs.declared.uses.Handed.{Handed}
use Rattle.cqf_edge.specs.Edge.{left_after, left_by, times_by, times_on}
use Rattle.cqf_edge.specs.EdgeFlows.{EdgeFlowsText, edge_flows, edges_with, flow_at_edge, flows_at_edge, handed_of_all, passage_of}
use Rattle.cqf_edge.specs.EdgeLaws.{StreamsComeByLinks}
use Rattle.cqf_edge.specs.Entrances.{link_at}
use Rattle.cqf_edge.specs.Uses.{bounds_of}
use Rattle.cqf_program_scenario.specs.Networks.{network_of_part}
use Rattle.cqf_program_plans.specs.declared.latency.latencies.Latency.{Latency}
use Rattle.cqf_program_plans.specs.declared.latency.latencies.Verdict.TheVariants as reported
use Rattle.cqf_program_plans.specs.Edges.{edges_by_access, edges_without, has_access, open_edges_of_part}
use Rattle.cqf_program_plans.specs.Latency.Input.{deadlines_in}
use Rattle.cqf_program_plans.specs.Latency.Text.{deadline_of, is_station, latencies_of, latencies_of_row, latency_from_talker, latency_to, listeners_of, said_of_latency}
use Rattle.cqf_program_plans.specs.Latency.Text.{times_of}
use Rattle.cqf_program_plans.proofs.CompileLemmas.{same_ok}
use Rattle.cqf_program_runs.specs.declared.deliveries.delivery.Delivery.{Delivery}
use Rattle.cqf_program_runs.specs.declared.deliveries.delivery.Journey.{Journey}
use Rattle.cqf_program_runs.specs.declared.deliveries.delivery.Passage.{Passage}
use Rattle.cqf_program_runs.specs.declared.deliveries.delivery.Passage.TheVariants as passage
use Rattle.cqf_program_runs.specs.Deliveries.ArrivalLaws.{has_come}
use Rattle.cqf_program_runs.specs.Deliveries.{end_of_journey, end_of_passage, fate_of}
use Rattle.cqf_program_laws.specs.OutputLaws.{AreAsJudgedFrom, IsAsJudgedFrom}
use Rattle.cqf_program_laws.specs.VerdictLaws.{AreAsJudged, IsAsJudged}
use Rattle.cqf_program_laws.proofs.FromTalkers.{least_is_some}
use Rattle.cqf_program_laws.proofs.Judged.{said_in_time, said_late}
use Rattle.cqf_program_laws.proofs.ReadNetworks.{network_is_read}
use Rattle.cqf_program_laws.proofs.Readers.{handed_each, open_by_access, open_edge, open_without, optional}
use Rattle.cqf_program_laws.proofs.Scripts.{stepped}

-- ---- deadlines and times, by the numbers of streams

abbrev pub edge_deadlines : List FlowText → List (Option ℕ)
edge_deadlines flows = deadlines_in (map (λ (flow : FlowText). flow.0) flows)

-- what streams have at their edge bridges of their deadlines; and no frame may take longer at least than at most
pub record AreLeft (edge : EdgeFlowsText) : Type 0 where
  pub left : (n : ℕ) → deadline_of (edge_deadlines edge.flows) n ≡ left_by (times_of edge.times n) (deadline_of edge.deadlines n)
  pub ordered : (n : ℕ) (times : AccessTimes) → times_of edge.times n ≡ Some times → times.least ≤ times.most

-- where none is handed over
none_left : (flows : List FlowText) (n : ℕ) →
    deadline_of (edge_deadlines flows) n ≡ left_by (times_of (map (λ _. None) flows) n) (deadline_of (map (λ (flow : FlowText). flow.0.1) flows) n)
none_left [] n = refl
none_left (flow ∷ flows) zero = refl
none_left (flow ∷ flows) (suc n) = none_left flows n

no_times : (flows : List FlowText) (n : ℕ) (times : AccessTimes) → times_of (map (λ _. None) flows) n ≡ Some times → ⊥
no_times [] n times is = absurd (cc)
no_times (flow ∷ flows) zero times is = absurd (cc)
no_times (flow ∷ flows) (suc n) times is = no_times flows n times is

-- where some are
each_left : (network : NetworkDomain) (whole handed : List (Option Handed)) (all : List NetworkFlowText) (n : ℕ) → length handed ≡ length all →
    deadline_of (edge_deadlines (flows_at_edge (map (passage_of network (bounds_of network whole)) handed) all)) n
    ≡ left_by (times_of (map (option_and_then times_by) (map (passage_of network (bounds_of network whole)) handed)) n)
    (deadline_of (map (λ (found : NetworkFlowText). found.flow.0.1) all) n)
each_left network whole [] [] n same = refl
each_left network whole [] (one ∷ all) n same = absurd (omega (arith, same))
each_left network whole (h ∷ handed) [] n same = absurd (omega (arith, same))
each_left network whole (h ∷ handed) (one ∷ all) zero same =
    optional (λ p. (flow_at_edge p one.flow).0.1 ≡ left_by (option_and_then times_by p) one.flow.0.1) (passage_of network (bounds_of network whole) h) refl
    (λ p. refl)
each_left network whole (h ∷ handed) (one ∷ all) (suc n) same = each_left network whole handed all n (omega (arith, same))

-- times are of a link of the network, and of what is handed over
times_at : (network : NetworkDomain) (whole handed : List (Option Handed)) (n : ℕ) (times : AccessTimes) →
    times_of (map (option_and_then times_by) (map (passage_of network (bounds_of network whole)) handed)) n ≡ Some times →
    (one : Option Handed) × (slice_get handed n ≡ Some one) × (option_and_then times_by (passage_of network (bounds_of network whole) one) ≡ Some times)
times_at network whole [] n times is = absurd (cc)
times_at network whole (h ∷ handed) zero times is = (h, refl, is)
times_at network whole (h ∷ handed) (suc n) times is = times_at network whole handed n times is

-- what is made of two values that are there
made_of_two : {A B C D : Type 0} (make : A → B → C) (f : C → Option D) (b : Option B) (a : Option A) (d : D) →
    option_and_then f (option_and_then (λ (x : A). option_map (make x) b) a) ≡ Some d → (x : A) × (y : B) × (a ≡ Some x) × (f (make x y) ≡ Some d)
made_of_two make f b None d h = absurd (cc)
made_of_two make f None (Some x) d h = absurd (cc)
made_of_two make f (Some y) (Some x) d h = (x, y, refl, h)

-- and of one
made_of_one : {A D : Type 0} (f : A → D) (a : Option A) (d : D) → option_map f a ≡ Some d → (x : A) × (a ≡ Some x) × (f x ≡ d)
made_of_one f None d h = absurd (cc)
made_of_one f (Some x) d h = (x, refl, same_Some (f x) d h)

-- a frame with no more octets is on its way no longer, with no more delay
faster : (link : AccessLink) (delay other octets more : ℕ) → delay ≤ other → octets ≤ more → travel_time link delay octets ≤ travel_time link other more
faster link delay other octets more less fewer = omega (arith, time_grows (octets + 8) (more + 8) link.octet_time (omega (arith, fewer)), less)

no_less : (least path wait : ℕ) → least ≤ path → least ≤ path + wait
no_less least path wait less = omega (arith, less)

-- so they are in order, if its delays and its sizes are
one_ordered : (network : NetworkDomain) (whole : List (Option Handed)) (handed : Option Handed) (times : AccessTimes) →
    option_and_then times_by (passage_of network (bounds_of network whole) handed) ≡ Some times →
    ((h : Handed) (link : TalkerLink) → handed ≡ Some h → link_at network h.index ≡ Some link → (link.least ≤ link.delay) × (h.shortest ≤ h.octets)) →
    times.least ≤ times.most
one_ordered network whole None times is ordered = absurd (cc)
one_ordered network whole (Some h) times is ordered =
    let two = made_of_two _ times_by (slice_get (bounds_of network whole) h.index) (link_at network h.index) times is in
    let link : TalkerLink = two.0 in
    let are = ordered h link refl two.2 in
    let known = made_of_one (times_on (record { link = link; handed = h; bound = two.1 })) h.traffic times two.3 in
    subst (λ (t : AccessTimes). t.least ≤ t.most) known.2
    (no_less (travel_time (link_of link.rate None) link.least h.shortest) (travel_time (link_of link.rate None) link.delay h.octets) _
    (faster (link_of link.rate None) link.least link.delay h.shortest h.octets are.0 are.1))

there_is : {X : Type 0} (xs : List X) (k : ℕ) → k < length xs → (x : X) × (slice_get xs k ≡ Some x)
there_is [] k within = absurd (omega (arith, within))
there_is (x ∷ xs) zero within = (x, refl)
there_is (x ∷ xs) (suc k) within = there_is xs k (omega (arith, within))

-- of a network's streams
left_with : StreamsComeByLinks → (network : NetworkDomain) (found : List NetworkFlowText) (edge : EdgeFlowsText) → IsNetwork network →
    edge_flows network found ≡ Ok edge → AreLeft edge
left_with come network found edge is_network h =
    let e = stepped {B = EdgeFlowsText} (handed_of_all network found) (λ (handed : List (Option Handed)). Ok (edges_with network found handed)) edge h in
    let many = handed_each network found e.0 e.1 in
    let same = same_ok (edges_with network found e.0) edge e.2 in
    subst AreLeft same (record {
      left = λ n. each_left network e.0 e.0 found n many;
      ordered = λ n times is.
          let there = times_at network e.0 e.0 n times is in
          one_ordered network e.0 there.0 times there.2 (λ handed link own is_link.
          let hands : slice_get e.0 n ≡ Some (Some handed) = there.1 ∙ ap (λ (o : Option Handed). Some o) own in
          let one = there_is found n (omega (arith, slice_get_within e.0 n (Some handed) hands, many)) in
          let by_link = come network found edge n one.0 handed h one.1 (ap (λ (x : EdgeFlowsText). slice_get x.handed n) (sym same) ∙ hands) in
          let good = All-contains (IsTalkerLink network) network.talkers link is_network.has_talkers.each_there
          (contains_at network.talkers handed.index link is_link) in
          (good.ordered, by_link.sizes));
    })

-- and of a part's
pub are_left : StreamsComeByLinks → (limits : Limits) (domain streams : List ℕ) (network : NetworkDomain) (edge : EdgeFlowsText) →
    network_of_part limits domain ≡ Ok network → open_edges_of_part network streams ≡ Ok edge → AreLeft edge
are_left come limits domain streams network edge read h = by (has_access network) h
  where
    by : (b : Bool) → and_then (if b then edges_by_access network streams else edges_without streams) open_edge ≡ Ok edge → AreLeft edge
    by true is =
        let are = open_by_access network streams edge is in
        left_with come network are.found edge (network_is_read limits domain network read).is_network are.at_edges
    by false is =
        let are = open_without streams edge is in
        subst AreLeft are.same (record { left = none_left are.flows; ordered = λ n times at. absurd (no_times are.flows n times at) })

-- ---- verdicts

-- by their tests
in_time_if : (least most deadline : ℕ) → most ≤ deadline → sure_of least most deadline ≡ InTime
in_time_if least most deadline short = ap (λ (b : Bool). if b then InTime else (if nat_lt deadline least then Late else MayBeLate)) (le-leb most deadline short)

late_if : (least most deadline : ℕ) → deadline < most → deadline < least → sure_of least most deadline ≡ Late
late_if least most deadline long late =
    let over : nat_le most deadline ≡ false = grind (arith, nat_tests) in
    ap (λ (b : Bool). if b then InTime else (if nat_lt deadline least then Late else MayBeLate)) over
    ∙ ap (λ (b : Bool). if b then Late else MayBeLate) (lt-ltb deadline least late)

in_time_means : (least most deadline : ℕ) → sure_of least most deadline ≡ InTime → most ≤ deadline
in_time_means least most deadline h = by (nat_le most deadline) (nat_lt deadline least) refl h
  where
    by : (within over : Bool) → nat_le most deadline ≡ within → (if within then InTime else (if over then Late else MayBeLate)) ≡ InTime → most ≤ deadline
    by true over is e = grind (arith, nat_tests)
    by false true is e = absurd (cc)
    by false false is e = absurd (cc)

late_means : (least most deadline : ℕ) → sure_of least most deadline ≡ Late → (deadline < most) × (deadline < least)
late_means least most deadline h = by (nat_le most deadline) (nat_lt deadline least) refl refl h
  where
    by : (within over : Bool) → nat_le most deadline ≡ within → nat_lt deadline least ≡ over →
        (if within then InTime else (if over then Late else MayBeLate)) ≡ Late → (deadline < most) × (deadline < least)
    by true over is late e = absurd (cc)
    by false true is late e = (grind (arith, nat_tests), grind (arith, nat_tests))
    by false false is late e = absurd (cc)

-- a frame that takes this long from its edge bridge, and from its hand-over
from_hand_over : (first last least most at offered whole : ℕ) → 0 < least → at + first ≤ offered → offered ≤ at + last → least ≤ whole - offered →
    whole - offered ≤ most → (least + first ≤ whole - at) × (whole - at ≤ most + last)
from_hand_over first last least most at offered whole some early late shorter longer =
    (omega (arith, some, early, shorter), omega (arith, some, late, shorter, longer))

between : (least taken most : ℕ) → least ≤ taken → taken ≤ most → least ≤ most
between least taken most first last = omega (arith, first, last)

-- what is left of a deadline that is late from the hand-over is late
left_late : (first last least most deadline : ℕ) → 0 < least → least ≤ most → first ≤ last → deadline < most + last → deadline < least + first →
    (deadline - last < most) × (deadline - last < least)
left_late first last least most deadline some ordered times long late =
    (omega (arith, some, ordered, long), omega (arith, some, ordered, times, late))

-- a frame that has come is whole
is_whole : (delivery : Delivery) (journey : Journey) → delivery.passage ≡ passage.Goes journey → has_come (fate_of delivery) ≡ true →
    (whole : Nanos) × (journey.whole ≡ Some whole)
is_whole delivery journey goes come =
    by journey.whole refl (ap (λ (p : Passage). has_come (end_of_passage delivery.at.0 p)) (sym goes) ∙ come)
  where
    by : (o : Option Nanos) → journey.whole ≡ o → has_come (end_of_journey delivery.at.0 o journey.deadline) ≡ true →
        (whole : Nanos) × (journey.whole ≡ Some whole)
    by None at h = absurd (cc)
    by (Some whole) at h = (whole, at)

-- ---- latencies

-- a latency with another deadline
abbrev with_deadline : Latency → Option ℕ → Latency
with_deadline l deadline = record {
  stream = l.stream;
  listener = l.listener;
  bridges = l.bridges;
  least = l.least;
  most = l.most;
  window = l.window;
  deadline = deadline;
}

-- without an access link
judged_at_bridge : (l : Latency) (delivery : Delivery) → IsAsJudged l delivery → IsAsJudgedFrom None l delivery
judged_at_bridge l delivery judged = record {
  within = λ journey whole at goes is handed.
      let b = judged.within journey whole goes is in
      subst (λ (from : ℕ). (l.least ≤ whole.0 - from) × (whole.0 - from ≤ l.most)) (sym handed) b;
  in_time = judged.in_time;
  late = judged.late;
}

-- by one
judged_by_access : (times : AccessTimes) (l : Latency) (delivery : Delivery) (journey : Journey) → delivery.passage ≡ passage.Goes journey →
    times.least ≤ times.most → 0 < l.least → IsAsJudged (with_deadline l (option_map (left_after times) l.deadline)) delivery →
    IsAsJudgedFrom (Some times) (latency_from_talker (Some times) l) delivery
judged_by_access times l delivery journey goes ordered some judged = record {
  within = λ other whole at there is handed.
      let b = judged.within other whole there is in
      from_hand_over times.least times.most l.least l.most at delivery.at.0 whole.0 some handed.0 handed.1 b.0 b.1;
  in_time = λ verdict. judged.in_time (in_time_there l.deadline verdict);
  late = λ verdict come.
      let whole = is_whole delivery journey goes come in
      let b = judged.within journey whole.0 goes whole.1 in
      judged.late (late_there l.deadline (between l.least (whole.0.0 - delivery.at.0) l.most b.0 b.1) verdict) come;
}
  where
    in_time_there : (deadline : Option ℕ) →
        option_map (λ (n : ℕ). said_of_latency (sure_of (l.least + times.least) (l.most + times.most) n)) deadline ≡ Some reported.InTime →
        option_map (λ (n : ℕ). said_of_latency (sure_of l.least l.most n)) (option_map (left_after times) deadline) ≡ Some reported.InTime
    in_time_there None h = absurd (cc)
    in_time_there (Some end) h =
        let sure = said_in_time (sure_of (l.least + times.least) (l.most + times.most) end) (same_Some _ reported.InTime h) in
        let short = in_time_means (l.least + times.least) (l.most + times.most) end sure in
        let left : l.most ≤ end - times.most = omega (arith, short) in
        ap (λ (s : Sure). Some (said_of_latency s)) (in_time_if l.least l.most (end - times.most) left)

    late_there : (deadline : Option ℕ) → l.least ≤ l.most →
        option_map (λ (n : ℕ). said_of_latency (sure_of (l.least + times.least) (l.most + times.most) n)) deadline ≡ Some reported.Late →
        option_map (λ (n : ℕ). said_of_latency (sure_of l.least l.most n)) (option_map (left_after times) deadline) ≡ Some reported.Late
    late_there None bounds h = absurd (cc)
    late_there (Some end) bounds h =
        let sure = said_late (sure_of (l.least + times.least) (l.most + times.most) end) (same_Some _ reported.Late h) in
        let over = late_means (l.least + times.least) (l.most + times.most) end sure in
        let left = left_late times.least times.most l.least l.most end some bounds ordered over.0 over.1 in
        ap (λ (s : Sure). Some (said_of_latency s)) (late_if l.least l.most (end - times.most) left.0 left.1)

-- with or without
judged_from : (times : Option AccessTimes) (l : Latency) (delivery : Delivery) (journey : Journey) → delivery.passage ≡ passage.Goes journey →
    ((t : AccessTimes) → times ≡ Some t → t.least ≤ t.most) → 0 < l.least → IsAsJudged (with_deadline l (left_by times l.deadline)) delivery →
    IsAsJudgedFrom times (latency_from_talker times l) delivery
judged_from None l delivery journey goes ordered some judged = judged_at_bridge l delivery judged
judged_from (Some times) l delivery journey goes ordered some judged = judged_by_access times l delivery journey goes (ordered times refl) some judged

-- a latency from a hand-over is of the same stream and listener
same_stream : (times : Option AccessTimes) (l : Latency) → (latency_from_talker times l).stream ≡ l.stream
same_stream None l = refl
same_stream (Some t) l = refl

same_listener : (times : Option AccessTimes) (l : Latency) → (latency_from_talker times l).listener ≡ l.listener
same_listener None l = refl
same_listener (Some t) l = refl

-- a link that ends in a station ends in a node
ends_in : (o : Option Node) → is_station o ≡ true → (node : Node) × (o ≡ Some node)
ends_in None h = absurd (cc)
ends_in (Some node) h = (node, refl)

-- so all that `latency` says from hand-overs holds
pub as_judged_from : (d : Domain) (rows : List Row) (edge : EdgeFlowsText) (deliveries : List Delivery) → IsAccepted d → AreLeft edge →
    AreAsJudged (latencies_of d rows (edge_deadlines edge.flows)) deliveries → AreAsJudgedFrom d rows edge deliveries
as_judged_from d rows edge deliveries accepted are judged row latency delivery among listed there to =
    let times = times_of edge.times row.no in
    let to_hop : Option ℕ → Hop → Latency = λ deadline hop. latency_to d (most_beside rows row.tree.items row.pace hop.link) row deadline hop in
    let written = deadline_of edge.deadlines row.no in
    let b = contains_from_map (latency_from_talker times) (latencies_of_row d rows row written) latency listed in
    let h = contains_from_map (to_hop written) (listeners_of d row) b.0 b.1 in
    let hop : Hop = h.0 in
    let own : Latency = to_hop written hop in
    let left = deadline_of (edge_deadlines edge.flows) row.no in
    let at_edge : Latency = to_hop left hop in
    let of_row = contains_map (to_hop left) (listeners_of d row) hop h.1 in
    let in_all = contains_flat (λ (r : Row). latencies_of_row d rows r (deadline_of (edge_deadlines edge.flows) r.no)) rows row at_edge among of_row in
    let is : latency_from_talker times own ≡ latency = ap (latency_from_talker times) h.2 ∙ b.2 in
    let stream : delivery.stream ≡ own.stream = to.stream ∙ sym (ap (λ (l : Latency). l.stream) is) ∙ same_stream times own in
    let listener : to.journey.listener ≡ own.listener = to.listener ∙ sym (ap (λ (l : Latency). l.listener) is) ∙ same_listener times own in
    let here = judged at_edge delivery in_all there (record { journey = to.journey; goes = to.goes; stream = stream; listener = listener }) in
    let ends = ends_in (end_of d hop.link) (contains_from_filter (λ (x : Hop). is_station (end_of d x.link)) row.tree.items hop h.1).1 in
    subst (λ (l : Latency). IsAsJudgedFrom times l delivery) is
    (judged_from times own delivery to.journey to.goes (are.ordered row.no) (least_is_some d hop.link hop.hop_number ends.0 accepted ends.1)
    (subst (λ (o : Option ℕ). IsAsJudged (with_deadline own o) delivery) (are.left row.no) here))
