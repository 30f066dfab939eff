-- Streams that are handed to access links, at their edge bridges.
use Rattle.std.proofs.Common.{◌≡◌, ℕ, suc, zero, ◌+◌, ◌<◌, ◌≤◌, ◌∷◌, [], ◌∙◌, Bool, true, false, List, Option, Some, None, Result, Ok, Err, ap, arith, length, map}
use Rattle.std.proofs.Common.{Contains, count_by, min, nat_lt, ok_or, refl, subst, sym}
use Rattle.std.specs.Prelude.{if◌then◌else◌, is_some, option_and_then, option_map, position, slice_get}
use Rattle.std.specs.Option.{option_map_or}
use Rattle.std.specs.Result.{result_map_both}
use Rattle.std.proofs.lemmas.Bool.{eq-eqb}
use Rattle.std.proofs.lemmas.List.Quantifiers.{position-Some}
use Rattle.std.proofs.lemmas.Option.{same_Some, slice_get-map}
use Rattle.cqf_lists.specs.Results.{and_then}
use Rattle.cqf_lists.proofs.Any.{none_member, position_any}
use Rattle.cqf_lists.proofs.Least.{unmapped_none}
use Rattle.cqf_lists.proofs.Members.{contains_at, contains_flat, contains_here, contains_none}
use Rattle.cqf_topology.specs.DomainText.{if_so, index_of}
use Rattle.cqf_topology.proofs.Refusals.{and_then-Ok, refuse-Ok}
use Rattle.cqf_units.specs.Name.{is_name}
use Rattle.cqf_laws_timing.specs.Traffic.{Traffic}
use Rattle.cqf_traffic.specs.TrafficText.{TrafficText, promise_of}
use Rattle.cqf_network.specs.declared.domain.TalkerLink.{TalkerLink}
use Rattle.cqf_network.specs.declared.talkers.Talker.{Talker}
use Rattle.cqf_network.specs.NetworkFlows.{NetworkFlowText}
use Rattle.cqf_network.specs.NetworkDomain.{NetworkDomain}
use Rattle.cqf_access.specs.Access.{IsBound}
use Rattle.cqf_access.specs.Arriving.{longest_wait, travel_time}
use Rattle.cqf_network.proofs.StreamParts.{and_first-Ok}
use Rattle.cqf_edge.specs.declared.edge.Passage.{Passage}
use Rattle.cqf_edge.specs.declared.entrances.Entrance.{Entrance}
use Rattle.cqf_edge.specs.declared.entrances.Entrance.TheVariants.{AtBridge, ByAccess}
use Rattle.cqf_edge.specs.declared.faults.EdgeFault.TheVariants as fault
use Rattle.cqf_edge.specs.declared.faults.TalkerFault.{TalkerFault}
use Rattle.cqf_edge.specs.declared.faults.TalkerFault.TheVariants.{NoTalker, TwoAccessLinks}
use Rattle.cqf_edge.specs.declared.uses.AccessBound.{AccessBound}
use Rattle.cqf_edge.specs.declared.uses.Handed.{Handed}
use Rattle.cqf_edge.specs.Edge.{closer_word, link_by, times_by, times_on, word_from, word_on}
use Rattle.cqf_edge.specs.EdgeFlows.{EdgeFlowsText, edges_with, flow_at_edge, flows_at_edge, handed_by, handed_of, handed_of_all, handed_with, passage_of}
use Rattle.cqf_edge.specs.EdgeLaws.{BeginsAtEdge, ComesByLink, KeepsWord, OthersBeginAtEdges, StreamsComeByLinks}
use Rattle.cqf_edge.specs.Entrances.{agrees_with, at_node, by_station, by_that_to, entrance_of, joins, leaves_station, listeners_agree}
use Rattle.cqf_edge.specs.Uses.{bound_by, bound_for, bound_of, bounds_from, bounds_of, handed_over, handed_to, is_full, is_handed_to, least_bound, link_with}
use Rattle.cqf_edge.specs.Uses.{longest_frame, most_bound, other_beside, promise_in, promises_in, shortest_frame, station_at, time_in}
use Rattle.cqf_edge.proofs.Bounds.{bound_from}
use Rattle.cqf_edge.proofs.Came.{edge_same}
use Rattle.cqf_edge.proofs.Written.{after}

-- ---- what is handed over

-- what a stream hands to an access link of the network
record IsOver (network : NetworkDomain) (one : NetworkFlowText) (h : Handed) : Type 0 where
  index : ℕ
  there : index < length network.talkers
  is : h ≡ handed_over network.overhead index one.flow.0.0.octets one.shortest one.flow.1

found_inside : (test : TalkerLink → Bool) (links : List TalkerLink) (index : ℕ) → position test links ≡ Some index → index < length links
found_inside test [] index e = absurd cc
found_inside test (link ∷ links) index e = (position-Some test (link ∷ links) index link e).0

by_found : (o : Option ℕ) (index : ℕ) → ◌≡◌ {A = Result Entrance TalkerFault} (and_then (ok_or o NoTalker) (λ p. Ok (ByAccess p))) (Ok (ByAccess index)) → o ≡ Some index
by_found None index h = absurd cc
by_found (Some p) index h = cc

to_inside : (network : NetworkDomain) (station : ℕ) (o : Option ℕ) (index : ℕ) → by_that_to network station o ≡ Ok (ByAccess index) → index < length network.talkers
to_inside network station None index h = absurd cc
to_inside network station (Some b) index h =
    found_inside (joins station b) network.talkers index (by_found (position (joins station b) network.talkers) index h)

station_inside : (network : NetworkDomain) (station : ℕ) (o : Option (List ℕ)) (index : ℕ) → by_station network station o ≡ Ok (ByAccess index) →
    index < length network.talkers
station_inside network station None index h =
    found_inside (leaves_station station) network.talkers index (by_found (position (leaves_station station) network.talkers) index
    (refuse-Ok (if_so (nat_lt 1 (count_by (leaves_station station) network.talkers))) (λ _. TwoAccessLinks)
    (and_then (ok_or (position (leaves_station station) network.talkers) NoTalker) (λ p. Ok (ByAccess p))) (ByAccess index) h).1)
station_inside network station (Some bridge) index h = to_inside network station (index_of bridge network.bridges) index h

node_inside : (network : NetworkDomain) (b s : Option ℕ) (o : Option (List ℕ)) (index : ℕ) → at_node network b s o ≡ Ok (ByAccess index) →
    index < length network.talkers
node_inside network (Some b) s None index h = absurd cc
node_inside network (Some b) s (Some x) index h = absurd cc
node_inside network None (Some s) o index h = station_inside network s o index h
node_inside network None None o index h = absurd cc

over_by : (network : NetworkDomain) (one : NetworkFlowText) (entrance : Entrance) (h : Handed) →
    handed_by network.overhead entrance one.flow.0.0.octets one.shortest one.flow.1 ≡ Some h → ((index : ℕ) → entrance ≡ ByAccess index → index < length network.talkers) →
    IsOver network one h
over_by network one (AtBridge b) h e inside = absurd cc
over_by network one (ByAccess index) h e inside = record { index = index; there = inside index refl; is = sym (same_Some _ h e) }

handed_same : (x y : Option Handed) → ◌≡◌ {A = Result (Option Handed) TalkerFault} (Ok x) (Ok y) → x ≡ y
handed_same x y e = cc

over_with : (network : NetworkDomain) (one : NetworkFlowText) (talker : Talker) (y : Option Handed) → handed_with network one talker ≡ Ok y →
    (h : Handed) → y ≡ Some h → IsOver network one h
over_with network one talker =
    after (λ y. (h : Handed) → y ≡ Some h → IsOver network one h) (entrance_of network talker) _ (λ entrance at.
    after (λ y. (h : Handed) → y ≡ Some h → IsOver network one h) (agrees_with network one.flow.0.0.paths entrance) _ (λ _ _.
    after (λ y. (h : Handed) → y ≡ Some h → IsOver network one h) (listeners_agree one.flow.0.0.paths one.listeners) _ (λ _ _ y made h e.
    over_by network one entrance h (handed_same _ y made ∙ e) (λ index same.
    node_inside network (index_of talker.node network.bridges) (index_of talker.node network.stations) talker.bridge index (at ∙ ap Ok same)))))

over_of : (network : NetworkDomain) (one : NetworkFlowText) (h : Handed) → handed_of network one ≡ Ok (Some h) → IsOver network one h
over_of network one h e = by one.talker e
  where
    unmapped : (r : Result (Option Handed) TalkerFault) → result_map_both (λ handed. handed) (λ why. fault.Talker one.flow.0.0.name why) r ≡ Ok (Some h) → r ≡ Ok (Some h)
    unmapped (Ok x) e = cc
    unmapped (Err w) e = absurd cc

    named : (b : Bool) (talker : Talker) →
        (if b then result_map_both (λ handed. handed) (λ why. fault.Talker one.flow.0.0.name why) (handed_with network one talker) else Ok None) ≡ Ok (Some h) →
        IsOver network one h
    named true talker e = over_with network one talker (Some h) (unmapped (handed_with network one talker) e) h refl
    named false talker e = absurd cc

    by : (o : Option Talker) →
        option_map_or (λ talker. if is_name one.flow.0.0.name then result_map_both (λ handed. handed) (λ why. fault.Talker one.flow.0.0.name why) (handed_with network one talker) else Ok None) o (Ok None)
        ≡ Ok (Some h) → IsOver network one h
    by None e = absurd cc
    by (Some talker) e = named (is_name one.flow.0.0.name) talker e

handed_there : (network : NetworkDomain) (found : List NetworkFlowText) (hs : List (Option Handed)) (k : ℕ) (one : NetworkFlowText) (x : Option Handed) →
    handed_of_all network found ≡ Ok hs → slice_get found k ≡ Some one → slice_get hs k ≡ Some x → handed_of network one ≡ Ok x
handed_there network [] hs k one x h a b = absurd cc
handed_there network (f ∷ found) hs zero one x h a b =
    let w = and_first-Ok (handed_of network f) (handed_of_all network found) hs h in
    ap (handed_of network) (sym (same_Some f one a)) ∙ w.first_is
    ∙ ap Ok (same_Some w.one x (sym (ap (λ (xs : List (Option Handed)). slice_get xs 0) w.all) ∙ b))
handed_there network (f ∷ found) hs (suc k) one x h a b =
    let w = and_first-Ok (handed_of network f) (handed_of_all network found) hs h in
    handed_there network found w.more k one x w.others_are a (sym (ap (λ (xs : List (Option Handed)). slice_get xs (suc k)) w.all) ∙ b)

-- ---- bounds

bounds_at : (all : List (Option Handed)) (links : List TalkerLink) (from k : ℕ) (link : TalkerLink) → slice_get links k ≡ Some link →
    slice_get (bounds_from all from links) k ≡ Some (bound_for all (from + k) link)
bounds_at all [] from k link at = absurd cc
bounds_at all (l ∷ links) from zero link at =
    let same : from ≡ from + 0 = omega arith in
    (λ i. Some (bound_for all (same i) (same_Some l link at i)))
bounds_at all (l ∷ links) from (suc k) link at =
    let same : from + 1 + k ≡ from + suc k = omega arith in
    bounds_at all links (from + 1) k link at ∙ ap (λ (n : ℕ). Some (bound_for all n link)) same

none_passes : {X : Type 0} (p : X → Bool) (xs : List X) (k : ℕ) (x : X) → position p xs ≡ None → slice_get xs k ≡ Some x → p x ≡ false
none_passes p xs k x none at =
    none_member p xs x (sym (position_any p xs) ∙ ap is_some none) (contains_at xs k x at)

-- where something is promised and the link isn't full, there is a bound
bound_known : (link : TalkerLink) (other : Option ℕ) (ts : List Traffic) (u : Traffic) → Contains ts u → is_full (bound_of link other ts) ≡ false →
    IsBound (link_with link other) ts (time_in (bound_of link other ts))
bound_known link other [] u c free = absurd (contains_none u c)
bound_known link other (t ∷ ts) u c free = by (least_bound (link_with link other) (t ∷ ts) most_bound) refl free
  where
    by : (o : Option ℕ) → least_bound (link_with link other) (t ∷ ts) most_bound ≡ o → is_full (bound_by o) ≡ false →
        IsBound (link_with link other) (t ∷ ts) (time_in (bound_by (least_bound (link_with link other) (t ∷ ts) most_bound)))
    by None e h = absurd cc
    by (Some time) e h =
        subst (λ (o : Option ℕ). IsBound (link_with link other) (t ∷ ts) (time_in (bound_by o))) (sym e)
        (bound_from (link_with link other) (t ∷ ts) most_bound time e)

-- a stream that promises something is one of those of its link
promise_there : (hs : List (Option Handed)) (k : ℕ) (h : Handed) (t : TrafficText) → slice_get hs k ≡ Some (Some h) → h.traffic ≡ Some t →
    Contains (promises_in (handed_to h.index hs)) (promise_of t)
promise_there hs k h t at is =
    contains_flat promise_in (handed_to h.index hs) h (promise_of t)
    (contains_flat (λ (o : Option Handed). if is_handed_to h.index o then option_map_or (λ handed. handed ∷ []) o [] else []) hs (Some h) h
    (contains_at hs k (Some h) at)
    (subst (λ (b : Bool). Contains (if b then h ∷ [] else []) h) (sym (eq-eqb h.index h.index refl)) (contains_here h [])))
    (subst (λ (o : Option TrafficText). Contains (option_map_or (λ (v : TrafficText). promise_of v ∷ []) o []) (promise_of t)) (sym is)
    (contains_here (promise_of t) []))

-- ---- at the edge bridge

there_is : {X : Type 0} (xs : List X) (k : ℕ) → k < length xs → (x : X) × (slice_get xs k ≡ Some x)
there_is [] k l = absurd (omega (arith, l))
there_is (x ∷ xs) zero l = (x, refl)
there_is (x ∷ xs) (suc k) l = there_is xs k (omega (arith, l))

flow_there : (ps : List (Option Passage)) (found : List NetworkFlowText) (k : ℕ) (p : Option Passage) (one : NetworkFlowText) → slice_get ps k ≡ Some p →
    slice_get found k ≡ Some one → slice_get (flows_at_edge ps found) k ≡ Some (flow_at_edge p one.flow)
flow_there [] found k p one a b = absurd cc
flow_there (q ∷ ps) [] k p one a b = absurd cc
flow_there (q ∷ ps) (f ∷ found) zero p one a b = (λ i. Some (flow_at_edge (same_Some q p a i) (same_Some f one b i).flow))
flow_there (q ∷ ps) (f ∷ found) (suc k) p one a b = flow_there ps found k p one a b

-- a passage by its parts
abbrev made : TalkerLink → Handed → AccessBound → Passage
made link h b = record { link = link; handed = h; bound = b }

passage_is : (network : NetworkDomain) (bounds : List AccessBound) (h : Handed) (link : TalkerLink) (b : AccessBound) →
    slice_get network.talkers h.index ≡ Some link → slice_get bounds h.index ≡ Some b → passage_of network bounds (Some h) ≡ Some (made link h b)
passage_is network bounds h link b at there =
    ap (λ (o : Option TalkerLink). option_and_then (λ l. option_map (λ found. made l h found) (slice_get bounds h.index)) o) at
    ∙ ap (λ (o : Option AccessBound). option_map (λ found. made link h found) o) there

min_right : (a b : ℕ) → min a b ≤ b
min_right a b = omega arith

some_mapped : {X Y : Type 0} (f : X → Y) (o : Option X) → is_some (option_map f o) ≡ is_some o
some_mapped f None = refl
some_mapped f (Some x) = refl

-- the word of a stream whose passage is known
word_kept : (network : NetworkDomain) (found : List NetworkFlowText) (hs : List (Option Handed)) (k : ℕ) (h : Handed) (link : TalkerLink)
    (t : TrafficText) → slice_get hs k ≡ Some (Some h) → h.traffic ≡ Some t → h.octets ≡ t.size → is_full (bound_for hs h.index link) ≡ false →
    KeepsWord (edges_with network found hs) h link (word_on (made link h (bound_for hs h.index link))) (times_by (made link h (bound_for hs h.index link))) t
word_kept network found hs k h link t hands traffic size free =
    let p = made link h (bound_for hs h.index link) in
    record {
      bound = time_in (bound_for hs h.index link);
      is_bound = bound_known link (other_beside link.other (handed_to h.index hs)) (promises_in (handed_to h.index hs)) (promise_of t)
          (promise_there hs k h t hands traffic) free;
      there = word_from p t (closer_word p t).jitter;
      is_there = ap (λ (o : Option TrafficText). option_map (λ u. word_from p u (closer_word p u).jitter) o) traffic;
      word = refl;
      offset = refl;
      taken = times_on p t;
      are_taken = ap (λ (o : Option TrafficText). option_map (times_on p) o) traffic;
      least = refl;
      most = ap (λ (octets : ℕ). travel_time (link_by p) link.delay octets + longest_wait (link_by p) (time_in (bound_for hs h.index link)) (promise_of t)) size;
    }

comes_with : (network : NetworkDomain) (found : List NetworkFlowText) (hs : List (Option Handed)) (k : ℕ) (one : NetworkFlowText) (h : Handed) →
    handed_of_all network found ≡ Ok hs → slice_get found k ≡ Some one → slice_get hs k ≡ Some (Some h) → ComesByLink network (edges_with network found hs) k one h
comes_with network found hs k one h read at hands =
    let over = over_of network one h (handed_there network found hs k one (Some h) read at hands) in
    let is_index : h.index ≡ over.index = ap (λ (x : Handed). x.index) over.is in
    let inside : h.index < length network.talkers = omega (arith, over.there, is_index) in
    let (link, is_link) = there_is network.talkers h.index inside in
    let bounds = bounds_of network hs in
    let b = bound_for hs h.index link in
    let plain : 0 + h.index ≡ h.index = omega arith in
    let there : slice_get bounds h.index ≡ Some b =
    bounds_at hs network.talkers 0 h.index link is_link ∙ ap (λ (n : ℕ). Some (bound_for hs n link)) plain in
    let p = made link h b in
    let ps = map (passage_of network bounds) hs in
    let passage : slice_get ps k ≡ Some (Some p) =
    slice_get-map (passage_of network bounds) hs k ∙ ap (option_map (passage_of network bounds)) hands ∙ ap Some (passage_is network bounds h link b is_link there) in
    record {
      link = link;
      is_link = is_link;
      promise = ap (λ (x : Handed). x.traffic) over.is;
      sizes = subst (λ (x : Handed). x.shortest ≤ x.octets) (sym over.is)
          (min_right (shortest_frame one.shortest one.flow.1) (longest_frame network.overhead one.flow.0.0.octets one.flow.1));
      flow = flow_at_edge (Some p) one.flow;
      at_edge = flow_there ps found k (Some p) one passage at;
      request = refl;
      times = times_by p;
      are_times = slice_get-map (option_and_then times_by) ps k ∙ ap (option_map (option_and_then times_by)) passage;
      known = some_mapped (times_on p) h.traffic ∙ ap (λ (x : Handed). is_some x.traffic) over.is;
      left = refl;
      word = λ none t is. word_kept network found hs k h link t hands (ap (λ (x : Handed). x.traffic) over.is ∙ is)
          (ap (λ (x : Handed). x.octets) over.is ∙ ap (longest_frame network.overhead one.flow.0.0.octets) is)
          (none_passes is_full bounds h.index b (unmapped_none (station_at network) (position is_full bounds) none) there);
    }

begins_with : (network : NetworkDomain) (found : List NetworkFlowText) (hs : List (Option Handed)) (k : ℕ) (one : NetworkFlowText) →
    slice_get found k ≡ Some one → slice_get hs k ≡ Some None → BeginsAtEdge (edges_with network found hs) k one
begins_with network found hs k one at hands =
    let ps = map (passage_of network (bounds_of network hs)) hs in
    let passage : slice_get ps k ≡ Some None =
    slice_get-map (passage_of network (bounds_of network hs)) hs k ∙ ap (option_map (passage_of network (bounds_of network hs))) hands in
    record {
      at_edge = flow_there ps found k None one passage at;
      no_times = slice_get-map (option_and_then times_by) ps k ∙ ap (option_map (option_and_then times_by)) passage;
    }

pub others_begin_at_edges : OthersBeginAtEdges
others_begin_at_edges network found edge stream one h at hands =
    let (hs, read, made_of) = and_then-Ok (handed_of_all network found) (λ handed. Ok (edges_with network found handed)) edge h in
    let same = edge_same network found hs edge made_of in
    subst (λ (x : EdgeFlowsText). BeginsAtEdge x stream one) same
    (begins_with network found hs stream one at (ap (λ (x : EdgeFlowsText). slice_get x.handed stream) same ∙ hands))

pub streams_come_by_links : StreamsComeByLinks
streams_come_by_links network found edge stream one handed h at hands =
    let (hs, read, made_of) = and_then-Ok (handed_of_all network found) (λ handed. Ok (edges_with network found handed)) edge h in
    let same = edge_same network found hs edge made_of in
    subst (λ (x : EdgeFlowsText). ComesByLink network x stream one handed) same
    (comes_with network found hs stream one handed read at (ap (λ (x : EdgeFlowsText). slice_get x.handed stream) same ∙ hands))
