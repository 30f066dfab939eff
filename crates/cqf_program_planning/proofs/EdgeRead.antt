-- Streams that are read from a network file keep what they have as they come to their edge bridges.
use Rattle.std.proofs.Common.{◌≡◌, ◌∙◌, ℕ, suc, ◌+◌, ◌-◌, ◌*◌, ◌<◌, ◌≤◌, ◌∷◌, [], All, Bool, true, false, Contains, IfSome, List, Option, Some, None, Result, Ok}
use Rattle.std.proofs.Common.{ap, arith, map, min, refl, subst, sym}
use Rattle.std.specs.Prelude.{if◌then◌else◌, option_and_then, option_map, slice_get, unwrap_or}
use Rattle.std.specs.Option.{ForSome}
use Rattle.std.proofs.lemmas.Option.{same_Some}
use Rattle.std.proofs.lemmas.List.Elements.{All-cons, All-contains, All-nil}
use Rattle.cqf_lists.specs.Lists.{each_below, least}
use Rattle.cqf_lists.proofs.EachBelow.{contains_from_below}
use Rattle.cqf_lists.proofs.Least.{unmapped_none}
use Rattle.cqf_lists.proofs.Members.{contains_at, contains_here, contains_none, contains_one}
use Rattle.cqf_units.specs.declared.timing.Rate.{Rate}
use Rattle.cqf_units.specs.declared.timing.Rate.TheVariants.{Mb10, Mb100, Mb1000, Mb2500, Mb5000, Mb10000, Mb25000, Mb40000, Mb100000}
use Rattle.cqf_units.specs.Timing.{ticks_of_octet, time_of}
use Rattle.cqf_units.proofs.Times.{time_grows}
use Rattle.cqf_laws_timing.specs.Traffic.{Traffic, most_frames}
use Rattle.cqf_topology.proofs.Refusals.{and_then-Ok}
use Rattle.cqf_traffic.specs.TrafficText.{IsTrafficText, TrafficText, promise_of}
use Rattle.cqf_network.specs.declared.domain.TalkerLink.{TalkerLink}
use Rattle.cqf_network.specs.declared.pacing.Pacing.{Pacing}
use Rattle.cqf_network.specs.declared.pacing.Pacing.TheVariants.{Given, InStep}
use Rattle.cqf_network.specs.NetworkDomain.{HasTalkerLinks, IsTalkerLink, NetworkDomain}
use Rattle.cqf_network.specs.StreamsText.{Along, Between, StreamText, WantedText}
use Rattle.cqf_access.specs.Access.{AccessLink, taken_of}
use Rattle.cqf_access.specs.Arriving.{longest_wait, spread_of, travel_time}
use Rattle.cqf_access.specs.Bounding.{link_of}
use Rattle.cqf_access.specs.Closer.{closer_wait}
use Rattle.cqf_edge.specs.declared.edge.Passage.{Passage}
use Rattle.cqf_edge.specs.declared.entrances.Entrance.{Entrance}
use Rattle.cqf_edge.specs.declared.entrances.Entrance.TheVariants.{AtBridge, ByAccess}
use Rattle.cqf_edge.specs.declared.faults.EdgeFault.{EdgeFault}
use Rattle.cqf_edge.specs.declared.uses.AccessBound.{AccessBound}
use Rattle.cqf_edge.specs.declared.uses.Handed.{Handed}
use Rattle.cqf_edge.specs.Edge.{IsWritten, closer_word, delays_of, grid_word, link_by, word_from}
use Rattle.cqf_edge.specs.EdgeFlows.{handed_by, passage_of}
use Rattle.cqf_edge.specs.EdgeStreams.{EdgeStreamsText, IsWrittenStream, edge_streams, entrances_of, handed_at, handed_at_each, stream_at, stream_at_edge, streams_at_edge}
use Rattle.cqf_edge.specs.EdgeStreams.{path_at_edge, streams_from, word_at}
use Rattle.cqf_edge.specs.Entrances.{link_at}
use Rattle.cqf_edge.specs.Uses.{IsShort, bound_by, bound_for, bound_of, bounds_from, bounds_of, handed_over, handed_to, is_enough, least_bound, link_with}
use Rattle.cqf_edge.specs.Uses.{most_bound, other_beside, promises_in, shortest_frame, time_in}
use Rattle.cqf_program_placing.specs.Room.{AreListeners, IsReadStream}

-- ---- no bound is longer than is looked for

least_inside : (test : ℕ → Bool) (n k : ℕ) → least test n ≡ Some k → k < n
least_inside test n k e =
    let (j, inside, c) = contains_from_below (λ i. if test i then i ∷ [] else []) n k
    (contains_at (each_below (λ i. if test i then i ∷ [] else []) n) 0 k e) in
    by j (test j) inside c
  where
    by : (j : ℕ) (b : Bool) → j < n → Contains (if b then j ∷ [] else []) k → k < n
    by j true inside c = subst (λ (i : ℕ). i < n) (contains_one j k c) inside
    by j false inside c = absurd (contains_none k c)

least_short : (link : AccessLink) (ts : List Traffic) (most time : ℕ) → least_bound link ts most ≡ Some time → time ≤ most
unfolding least_bound
least_short link ts most time e = by (least (λ k. is_enough link ts (suc k)) most) refl e
  where
    by : (o : Option ℕ) → least (λ k. is_enough link ts (suc k)) most ≡ o → option_map suc o ≡ Some time → time ≤ most
    by None at h = absurd cc
    by (Some k) at h =
        let inside : k < most = least_inside (λ j. is_enough link ts (suc j)) most k at in
        let same : suc k ≡ time = same_Some (suc k) time h in
        omega (arith, inside, same)

bound_short : (link : TalkerLink) (other : Option ℕ) (ts : List Traffic) → IsShort (bound_of link other ts)
bound_short link other [] = omega arith
bound_short link other (t ∷ ts) = by (least_bound (link_with link other) (t ∷ ts) most_bound) refl
  where
    by : (o : Option ℕ) → least_bound (link_with link other) (t ∷ ts) most_bound ≡ o → IsShort (bound_by o)
    by None e = omega arith
    by (Some time) e = least_short (link_with link other) (t ∷ ts) most_bound time e

bounds_short : (all : List (Option Handed)) (index : ℕ) (links : List TalkerLink) → All IsShort (bounds_from all index links)
bounds_short all index [] = All-nil IsShort
bounds_short all index (link ∷ links) =
    All-cons IsShort (bound_for all index link) (bounds_from all (index + 1) links)
    (bound_short link (other_beside link.other (handed_to index all)) (promises_in (handed_to index all))) (bounds_short all (index + 1) links)

-- ---- the word at the edge bridge is in its ranges

-- the time of the longest frame with its preamble
longest_time : (rate : Rate) → time_of 1530 (ticks_of_octet rate) ≤ 1224000
longest_time Mb10 = omega arith
longest_time Mb100 = omega arith
longest_time Mb1000 = omega arith
longest_time Mb2500 = omega arith
longest_time Mb5000 = omega arith
longest_time Mb10000 = omega arith
longest_time Mb25000 = omega arith
longest_time Mb40000 = omega arith
longest_time Mb100000 = omega arith

travel_short : (rate : Rate) (delay octets : ℕ) → octets ≤ 1522 → travel_time (link_of rate None) delay octets ≤ 1224000 + delay
travel_short rate delay octets few =
    let grows : time_of (octets + 8) (ticks_of_octet rate) ≤ time_of 1530 (ticks_of_octet rate) =
    time_grows (octets + 8) 1530 (ticks_of_octet rate) (omega (arith, few)) in
    plain (time_of (octets + 8) (ticks_of_octet rate)) (time_of 1530 (ticks_of_octet rate)) grows (longest_time rate)
  where
    plain : (time most : ℕ) → time ≤ most → most ≤ 1224000 → 0 + time + delay ≤ 1224000 + delay
    plain time most a b = omega (arith, a, b)

less : (a b : ℕ) → a - b ≤ a
less a b = omega arith

less_twice : (a b c : ℕ) → a - b - c ≤ a
less_twice a b c = omega arith

jitter_short : (jitter wait spread time path delay : ℕ) → jitter ≤ 1000000000 → wait ≤ time → time ≤ 1000000000 → spread ≤ path → path ≤ 1224000 + delay →
    delay ≤ 10000000 → jitter + (wait + spread) ≤ 4000000000
jitter_short jitter wait spread time path delay a b c d e f = omega (arith, a, b, c, d, e, f)

offset_short : (offset path delay most : ℕ) → offset ≤ 1000000000 → path ≤ 1224000 + delay → delay ≤ most → most ≤ 10000000 → offset + path ≤ 2000000000
offset_short offset path delay most a b c d = omega (arith, a, b, c, d)

module _ (network : NetworkDomain) (p : Passage) (t : TrafficText) (link : IsTalkerLink network p.link) (bounded : time_in p.bound ≤ most_bound)
    (sizes : p.handed.shortest ≤ 1522) (good : IsTrafficText t) (written : IsWritten t) where
  abbrev time : ℕ
  time = time_in p.bound

  abbrev path : ℕ
  path = travel_time (link_of p.link.rate None) p.link.delay t.size

  spread_short : spread_of (link_by p) (delays_of p.link) p.handed.shortest t.size ≤ path
  spread_short = less path (travel_time (link_of p.link.rate None) p.link.least p.handed.shortest)

  closer_short : (closer_word p t).jitter ≤ 4000000000
  closer_short =
      jitter_short t.jitter (closer_wait (link_by p) time p.handed.shortest (promise_of t)) (spread_of (link_by p) (delays_of p.link) p.handed.shortest t.size) time
      path p.link.delay written.jitter
      (less_twice time (taken_of (link_by p) t.size) ((most_frames time (promise_of t) - 1) * taken_of (link_by p) p.handed.shortest)) bounded spread_short
      (travel_short p.link.rate p.link.delay t.size good.size.most) link.delay_most

  grid_short : (grid_word p t).jitter ≤ 4000000000
  grid_short =
      jitter_short t.jitter (longest_wait (link_by p) time (promise_of t)) (spread_of (link_by p) (delays_of p.link) p.handed.shortest t.size) time path
      p.link.delay written.jitter (less time (taken_of (link_by p) t.size)) bounded spread_short
      (travel_short p.link.rate p.link.delay t.size good.size.most) link.delay_most

  word_good : (jitter : ℕ) → jitter ≤ 4000000000 → IsTrafficText (word_from p t jitter)
  word_good jitter short = record {
    interval = good.interval;
    frames = good.frames;
    size = good.size;
    jitter = record { least = omega arith; most = short };
    offset = record {
      least = omega arith;
      most = offset_short t.offset (travel_time (link_of p.link.rate None) p.link.least p.handed.shortest) p.link.least p.link.delay written.offset
          (travel_short p.link.rate p.link.least p.handed.shortest sizes) link.ordered link.delay_most;
    };
  }

-- ---- by an access link

-- how a stream goes by an access link of the network
record IsByLink (network : NetworkDomain) (octets : ℕ) (shortest : Option ℕ) (traffic : Option TrafficText) (p : Passage) : Type 0 where
  is_link : IsTalkerLink network p.link
  bounded : time_in p.bound ≤ most_bound
  index : ℕ
  handed : p.handed ≡ handed_over network.overhead index octets shortest traffic

min_right : (a b : ℕ) → min a b ≤ b
min_right a b = omega arith

-- a passage by its parts
abbrev made : TalkerLink → Handed → AccessBound → Passage
made link handed found = record { link = link; handed = handed; bound = found }

few_octets : (overhead octets index : ℕ) (shortest : Option ℕ) (t : TrafficText) (handed : Handed) → handed ≡ handed_over overhead index octets shortest (Some t) →
    IsTrafficText t → handed.shortest ≤ 1522
few_octets overhead octets index shortest t handed is good =
    let same : handed.shortest ≡ min (shortest_frame shortest (Some t)) t.size = ap (λ (h : Handed). h.shortest) is in
    let less : min (shortest_frame shortest (Some t)) t.size ≤ t.size = min_right (shortest_frame shortest (Some t)) t.size in
    let most : t.size ≤ 1522 = good.size.most in
    omega (arith, same, less, most)

-- the word of a stream, if it has one
abbrev word_by : Pacing → Passage → TrafficText → TrafficText
word_by (Given every phase) p = λ t. word_from p t (closer_word p t).jitter
word_by InStep p = λ t. word_from p t (grid_word p t).jitter

word_is : (pacing : Pacing) (p : Passage) → word_at pacing p ≡ option_map (word_by pacing p) p.handed.traffic
word_is (Given every phase) p = refl
word_is InStep p = refl

module _ (network : NetworkDomain) (octets : ℕ) (shortest : Option ℕ) (traffic : Option TrafficText) (p : Passage) (by : IsByLink network octets shortest traffic p)
    (pacing : Pacing) where
  same_word : word_at pacing p ≡ option_map (word_by pacing p) traffic
  same_word = word_is pacing p ∙ ap (λ (h : Handed). option_map (word_by pacing p) h.traffic) by.handed

  -- a stream that promises something does so at its edge bridge
  no_word : word_at pacing p ≡ None → traffic ≡ None
  no_word none = unmapped_none (word_by pacing p) traffic (sym same_word ∙ none)

  -- and what it promises there is in its ranges
  words_are_good : IfSome traffic IsTrafficText → ForSome traffic IsWritten → IfSome (word_at pacing p) IsTrafficText
  words_are_good good written =
      subst (λ (o : Option TrafficText). IfSome o IsTrafficText) (sym same_word) (each traffic by.handed good written pacing)
    where
      each : (o : Option TrafficText) → p.handed ≡ handed_over network.overhead by.index octets shortest o → IfSome o IsTrafficText → ForSome o IsWritten →
          (active_cycles : Pacing) → IfSome (option_map (word_by active_cycles p) o) IsTrafficText
      each None is good written active_cycles = tt
      each (Some t) is good written (Given every phase) =
          let few = few_octets network.overhead octets by.index shortest t p.handed is good in
          word_good network p t by.is_link by.bounded few good (written t refl) (closer_word p t).jitter
          (closer_short network p t by.is_link by.bounded few good (written t refl))
      each (Some t) is good written InStep =
          let few = few_octets network.overhead octets by.index shortest t p.handed is good in
          word_good network p t by.is_link by.bounded few good (written t refl) (grid_word p t).jitter
          (grid_short network p t by.is_link by.bounded few good (written t refl))

module _ (network : NetworkDomain) (links : All (IsTalkerLink network) network.talkers) (bounds : List AccessBound) (short : All IsShort bounds) where
  by_link : (entrance : Entrance) (octets : ℕ) (shortest : Option ℕ) (traffic : Option TrafficText) (p : Passage) →
      passage_of network bounds (handed_by network.overhead entrance octets shortest traffic) ≡ Some p → IsByLink network octets shortest traffic p
  by_link (AtBridge bridge) octets shortest traffic p e = absurd cc
  by_link (ByAccess index) octets shortest traffic p e = by (link_at network index) (slice_get bounds index) refl refl e
    where
      by : (l : Option TalkerLink) (b : Option AccessBound) → link_at network index ≡ l → slice_get bounds index ≡ b →
          option_and_then (λ link. option_map (λ found. made link (handed_over network.overhead index octets shortest traffic) found) b) l ≡ Some p →
          IsByLink network octets shortest traffic p
      by None b at there h = absurd cc
      by (Some link) None at there h = absurd cc
      by (Some link) (Some found) at there h =
          let one : Passage = made link (handed_over network.overhead index octets shortest traffic) found in
          subst (IsByLink network octets shortest traffic) (same_Some one p h) (record {
            is_link = All-contains (IsTalkerLink network) network.talkers link links (contains_at network.talkers index link at);
            bounded = All-contains IsShort bounds found short (contains_at bounds index found there);
            index = index;
            handed = refl;
          })

  -- ---- at the edge bridge

  -- a stream has its listeners
  listeners_after : (entrance : Entrance) (path : WantedText) → AreListeners path → AreListeners (path_at_edge network entrance path)
  listeners_after entrance (Along paths) are = tt
  listeners_after entrance (Between from to) are = are

  -- and what it reserves by, and its traffic is in its ranges
  stream_read : (entrance : Entrance) (stream : StreamText) (p : Option Passage) → passage_of network bounds (handed_at network.overhead stream (Some entrance)) ≡ p →
      IsReadStream stream → IsWrittenStream stream → IsReadStream (stream_at network entrance p stream)
  stream_read entrance stream None e read written =
      record { reserves = read.reserves; traffic = read.traffic; listeners = listeners_after entrance stream.path read.listeners }
  stream_read entrance stream (Some p) e read written =
      let octets : ℕ = unwrap_or stream.octets 0 in
      let by = by_link entrance octets stream.shortest stream.traffic p e in
      record {
        reserves = λ none nothing. read.reserves none (no_word network octets stream.shortest stream.traffic p by stream.pacing nothing);
        traffic = words_are_good network octets stream.shortest stream.traffic p by stream.pacing read.traffic written;
        listeners = listeners_after entrance stream.path read.listeners;
      }

  one_read : (entrance : Option Entrance) (stream : StreamText) → IsReadStream stream → IsWrittenStream stream →
      IsReadStream (stream_at_edge network entrance (passage_of network bounds (handed_at network.overhead stream entrance)) stream)
  one_read None stream read written = read
  one_read (Some entrance) stream read written =
      stream_read entrance stream (passage_of network bounds (handed_at network.overhead stream (Some entrance))) refl read written

  -- so it is with each
  all_read : (all : List StreamText) (entrances : List (Option Entrance)) → All IsReadStream all → All IsWrittenStream all →
      All IsReadStream (streams_at_edge network entrances (map (passage_of network bounds) (handed_at_each network.overhead all entrances)) all)
  all_read [] entrances read written = All-nil IsReadStream
  all_read (stream ∷ streams) [] read written = All-nil IsReadStream
  all_read (stream ∷ streams) (entrance ∷ entrances) read written =
      let first : IsReadStream stream = All-contains IsReadStream (stream ∷ streams) stream read (contains_here stream streams) in
      let own : IsWrittenStream stream = All-contains IsWrittenStream (stream ∷ streams) stream written (contains_here stream streams) in
      All-cons IsReadStream (stream_at_edge network entrance (passage_of network bounds (handed_at network.overhead stream entrance)) stream)
      (streams_at_edge network entrances (map (passage_of network bounds) (handed_at_each network.overhead streams entrances)) streams) (one_read entrance stream first own)
      (all_read streams entrances (λ k x low. read (suc k) x (omega (arith, low))) (λ k x low. written (suc k) x (omega (arith, low))))

edge_same : (x y : EdgeStreamsText) → ◌≡◌ {A = Result EdgeStreamsText EdgeFault} (Ok x) (Ok y) → x ≡ y
edge_same x y e = cc

pub edges_read : (network : NetworkDomain) (texts : List StreamText) (edge : EdgeStreamsText) → HasTalkerLinks network → All IsReadStream texts →
    All IsWrittenStream texts → edge_streams network texts ≡ Ok edge → All IsReadStream edge.streams
edges_read network texts edge talkers read written e =
    let (entrances, at, rest) = and_then-Ok (entrances_of network texts)
    (λ entrances. Ok (streams_from network texts entrances (handed_at_each network.overhead texts entrances))) edge e in
    let handed = handed_at_each network.overhead texts entrances in
    subst (λ (x : EdgeStreamsText). All IsReadStream x.streams) (edge_same (streams_from network texts entrances handed) edge rest)
    (all_read network talkers.each_there (bounds_of network handed) (bounds_short handed 0 network.talkers) texts entrances read written)
