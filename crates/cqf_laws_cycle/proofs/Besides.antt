-- A port's starts of streams beside background frames are legal for the streams alone.
use Rattle.std.proofs.Common.{◌≡◌, ℕ, ◌*◌, ◌/◌, ◌<◌, ◌≤◌, List, length, get_or, filter, inl, inr, sym, ap, ◌∙◌, subst, arith, AllPairs, Contains, le-leb}
use Rattle.std.proofs.Common.{le_trans}
use Rattle.std.proofs.lemmas.Bool.{cases_eq, cases_lt, cases_order, leb-true}
use Rattle.std.proofs.lemmas.List.Kept.{AllPairs-filter}
use Rattle.cqf_units.specs.Timing.{ending_of, idle_after}
use Rattle.cqf_model.proofs.Legal.{ends_later}
use Rattle.cqf_model.specs.declared.ports.Arrival.{Arrival}
use Rattle.cqf_model.specs.GateList.{IsOpenThrough, port_list}
use Rattle.cqf_model.specs.Port.{IsEligible, IsFirst, IsIdle, PortRules, Transmission, Waits, class_of, instant_of, no_arrival, octets_of}
use Rattle.cqf_model.specs.Due.{is_streams}
use Rattle.cqf_lists.proofs.Members.{contains_filter, contains_from_filter, contains_from_map, contains_map}
use Rattle.cqf_lists.proofs.Pairs.{pairs_map}
use Rattle.cqf_lists.proofs.Ranks.{kept_at_rank, rank_less, ranked}
use Rattle.cqf_laws_cycle.specs.Beside.{StreamsStartAsAlone, is_start_of_streams, index_alone, start_alone, starts_alone, only_streams}
use Rattle.cqf_laws_cycle.specs.Compiled.{given_class}
use Rattle.cqf_laws_cycle.specs.OnePort.{AreSent, IsWithinBudget, StreamsAt, YieldsToStreams}
use Rattle.cqf_units.proofs.Cycles.{cycle_below, cycle_from, cycle_upto, cycles_ordered, from_next}
use Rattle.cqf_laws_cycle.proofs.GateLists.{port_list_sends_until, sends_no_own}
use Rattle.cqf_laws_cycle.proofs.OnePorts.{background_yields}

-- `alone` has the streams' frames of `mixed`, in their order, each at the index that a function gives
record AreTheStreamsOf (mixed alone : List Arrival) (index_of : ℕ → ℕ) : Type 0 where
  inside : (p : ℕ) → p < length mixed → StreamsAt mixed p → index_of p < length alone
  same : (p : ℕ) → p < length mixed → StreamsAt mixed p → get_or alone (index_of p) no_arrival ≡ get_or mixed p no_arrival
  in_order : (q p : ℕ) → q < p → p < length mixed → StreamsAt mixed q → index_of q < index_of p
  each : (k : ℕ) → k < length alone → (p : ℕ) × (p < length mixed) × StreamsAt mixed p × (index_of p ≡ k)

-- `moved` has the starts of streams' frames among others, with the indices that the function gives
record AreTheStartsOf (mixed : List Arrival) (index_of : ℕ → ℕ) (starts moved : List Transmission) : Type 0 where
  in_order : AllPairs (λ (a b : Transmission). a.1 < b.1) moved
  to : (p s : ℕ) → Contains starts (p, s) → StreamsAt mixed p → Contains moved (index_of p, s)
  from : (k s : ℕ) → Contains moved (k, s) → (p : ℕ) × Contains starts (p, s) × StreamsAt mixed p × (index_of p ≡ k)

module _ (n g r : ℕ) (mixed alone : List Arrival) (index_of : ℕ → ℕ) (cycles : ℕ) (starts moved : List Transmission)
    (those : AreTheStreamsOf mixed alone index_of) (renamed : AreTheStartsOf mixed index_of starts moved)
    (port : IsWithinBudget n g r mixed cycles) (legal : AreSent n g r mixed cycles starts) where
  -- the port's rules
  abbrev rules : PortRules
  rules = record { entries = port_list n g; octet_time = r }

  -- the arrival at the index is a stream's frame
  abbrev Streams : ℕ → Type 0
  Streams p = StreamsAt mixed p

  -- no background frame delays a stream's frame
  keeps : YieldsToStreams n g r mixed cycles starts
  keeps = background_yields n g r mixed cycles cycles starts port legal

  -- the index of a start is within the arrivals
  has_index : (p s : ℕ) → Contains starts (p, s) → p < length mixed
  has_index p s c = (legal.first p s c).waits.inside

  -- if two streams' frames have the same index alone, they are the same
  one_index : (p q : ℕ) → p < length mixed → q < length mixed → Streams p → Streams q → index_of p ≡ index_of q → p ≡ q
  one_index p q p_inside q_inside p_streams q_streams same = elim (cases_order p q) [
    | inl e ↦ e
    | inr o ↦ elim o [
      | inl less ↦ absurd (omega (arith, those.in_order p q less q_inside p_streams, same))
      | inr more ↦ absurd (omega (arith, those.in_order q p more p_inside q_streams, same))
    ]
  ]

  -- the function keeps their order
  order_of : (q p : ℕ) → q < length mixed → Streams p → index_of q < index_of p → q < p
  order_of q p q_inside p_streams less = elim (cases_order q p) [
    | inl e ↦ absurd (omega (arith, ap index_of e, less))
    | inr o ↦ elim o [
      | inl before ↦ before
      | inr following ↦ absurd (omega (arith, those.in_order p q following q_inside p_streams, less))
    ]
  ]

  -- the class is the same
  classes : (p : ℕ) → p < length mixed → Streams p → class_of alone (index_of p) ≡ class_of mixed p
  classes p inside streams = ap (λ (a : Arrival). a.class) (those.same p inside streams)

  -- what waits beside background frames waits alone as well
  to_waits : (p t : ℕ) → Streams p → Waits mixed starts p t → Waits alone moved (index_of p) t
  to_waits p t streams waits = record {
    inside = those.inside p waits.inside streams;
    come = subst (λ (a : Arrival). a.at.0 ≤ t) (sym (those.same p waits.inside streams)) waits.come;
    not_started = λ s c.
        let m = renamed.from (index_of p) s c in
        waits.not_started s (subst (λ z. Contains starts (z, s)) (one_index m.0 p (has_index m.0 s m.1) waits.inside m.2 streams m.3) m.1);
  }

  -- and conversely
  from_waits : (p t : ℕ) → p < length mixed → Streams p → Waits alone moved (index_of p) t → Waits mixed starts p t
  from_waits p t inside streams waits = record {
    inside = inside;
    come = subst (λ (a : Arrival). a.at.0 ≤ t) (those.same p inside streams) waits.come;
    not_started = λ s c. waits.not_started s (renamed.to p s c streams);
  }

  -- the first of its class beside background frames is the first alone as well
  to_first : (p t : ℕ) → Streams p → IsFirst mixed starts p t → IsFirst alone moved (index_of p) t
  to_first p t streams first = record { waits = to_waits p t streams first.waits; none_before = none_before }
    where
      none_at : (q : ℕ) → q < length mixed → Streams q → index_of q < index_of p → class_of alone (index_of q) ≡ class_of alone (index_of p) →
          Waits alone moved (index_of q) t → ⊥
      none_at q inside q_streams less same waits =
          first.none_before q (order_of q p inside streams less) (sym (classes q inside q_streams) ∙ same ∙ classes p first.waits.inside streams)
          (from_waits q t inside q_streams waits)

      none_before : (k : ℕ) → k < index_of p → class_of alone k ≡ class_of alone (index_of p) → Waits alone moved k t → ⊥
      none_before k less same waits =
          let q = those.each k waits.inside in
          subst (λ z. z < index_of p → class_of alone z ≡ class_of alone (index_of p) → Waits alone moved z t → ⊥) q.3 (none_at q.0 q.1 q.2) less same waits

  -- and conversely
  from_first : (p t : ℕ) → p < length mixed → Streams p → IsFirst alone moved (index_of p) t → IsFirst mixed starts p t
  from_first p t inside streams first = record { waits = from_waits p t inside streams first.waits; none_before = none_before }
    where
      none_before : (q : ℕ) → q < p → class_of mixed q ≡ class_of mixed p → Waits mixed starts q t → ⊥
      none_before q less same waits =
          let q_streams : Streams q = subst (λ z. 6 ≤ z) (sym same) streams in
          first.none_before (index_of q) (those.in_order q p less inside q_streams) (classes q waits.inside q_streams ∙ same ∙ sym (classes p inside streams))
          (to_waits q t q_streams waits)

  -- what is eligible beside background frames is eligible alone
  to_eligible : (p t : ℕ) → p < length mixed → Streams p → IsEligible rules mixed p t → IsEligible rules alone (index_of p) t
  to_eligible p t inside streams eligible =
      subst (λ (a : Arrival). IsOpenThrough (port_list n g) a.class t (ending_of t a.octets r)) (sym (those.same p inside streams)) eligible

  -- and conversely
  from_eligible : (p t : ℕ) → p < length mixed → Streams p → IsEligible rules alone (index_of p) t → IsEligible rules mixed p t
  from_eligible p t inside streams eligible =
      subst (λ (a : Arrival). IsOpenThrough (port_list n g) a.class t (ending_of t a.octets r)) (those.same p inside streams) eligible

  -- a stream's frame that may start arrived in an earlier cycle
  came_before : (p t : ℕ) → Streams p → Waits mixed starts p t → IsEligible rules mixed p t → instant_of mixed p / n < t / n
  came_before p t streams waits eligible =
      let some_cycle : 0 < n = omega (arith, port.guard_short) in
      let sent = (port_list_sends_until n g (t / n) t (ending_of t (octets_of mixed p) r) (class_of mixed p) port.some_guard port.guard_short
      (cycle_from n t, cycle_upto n t some_cycle) (ends_later t (octets_of mixed p) r port.some_octet)).0 eligible in
      let no_later = cycles_ordered n (instant_of mixed p) t some_cycle waits.come in
      elim (sent.0) [
        | inr low ↦ absurd (omega (arith, low, streams))
        | inl class_there ↦ elim (cases_eq (instant_of mixed p / n) (t / n)) [
          | inl same ↦ absurd (sends_no_own (t / n) (sym class_there ∙ port.come.classes p waits.inside streams ∙ ap given_class same))
          | inr differ ↦ omega (arith, no_later, differ)
        ]
      ]

  -- no background frame is on the wire when a stream's frame may start: it would be of the same cycle, and start after that frame
  off_the_wire : (p q s t : ℕ) → Streams p → Waits mixed starts p t → IsEligible rules mixed p t → Contains starts (q, s) → class_of mixed q < 6 → s < t →
      idle_after s (octets_of mixed q) r ≤ t
  off_the_wire p q s t streams waits eligible c low less = elim (cases_lt (s / n) (t / n)) [
    | inl earlier ↦ le_trans (keeps.over q s c low) (from_next n (s / n) (t / n) t earlier (cycle_from n t))
    | inr no_earlier ↦ absurd (omega (arith, keeps.none_waits q s p c low early streams (waits_then (came_by no_earlier)), came_by no_earlier))
  ]
    where
      some_cycle : 0 < n
      some_cycle = omega (arith, port.guard_short)

      early : s / n ≤ cycles
      early = omega (arith, cycle_below n s cycles (legal.before_end q s c))

      came_by : t / n ≤ s / n → instant_of mixed p / n < s / n
      came_by no_earlier = omega (arith, came_before p t streams waits eligible, no_earlier)

      waits_then : instant_of mixed p / n < s / n → Waits mixed starts p s
      waits_then came = record {
        inside = waits.inside;
        come = omega (arith, cycle_upto n (instant_of mixed p) some_cycle, from_next n (instant_of mixed p / n) (s / n) s came (cycle_from n s));
        not_started = λ s' c'. omega (arith, waits.not_started s' c', less);
      }

  -- so if the port is idle alone and a stream's frame may start, it is idle beside background frames
  to_idle : (p t : ℕ) → Streams p → Waits mixed starts p t → IsEligible rules mixed p t → IsIdle rules alone moved t → IsIdle rules mixed starts t
  to_idle p t streams waits eligible idle q s c less = elim (cases_lt (class_of mixed q) 6) [
    | inl low ↦ off_the_wire p q s t streams waits eligible c low less
    | inr q_streams ↦ subst (λ (a : Arrival). idle_after s a.octets r ≤ t) (those.same q (has_index q s c) q_streams)
        (idle (index_of q) s (renamed.to q s c q_streams) less)
  ]

  -- what starts then is a stream's frame, by strict priority
  a_stream_starts : (p t : ℕ) → p < length mixed → Streams p → t < cycles * n → IsIdle rules alone moved t → IsFirst alone moved (index_of p) t →
      IsEligible rules alone (index_of p) t → (k : ℕ) × Contains moved (k, t)
  a_stream_starts p t inside streams early idle first_alone eligible_alone =
      let first = from_first p t inside streams first_alone in
      let eligible = from_eligible p t inside streams eligible_alone in
      let w = legal.work_conserving t p early (to_idle p t streams first.waits eligible idle) first eligible in
      elim (cases_lt (class_of mixed w.0) 6) [
        | inl low ↦ absurd (legal.strict_priority w.0 t p w.1 (omega (arith, low, streams)) first eligible)
        | inr w_streams ↦ (index_of w.0, renamed.to w.0 t w.1 w_streams)
      ]

  -- no start precedes a frame of a higher class that may start
  no_higher : (p s q : ℕ) → Contains starts (p, s) → Streams p → q < length mixed → Streams q → class_of alone (index_of p) < class_of alone (index_of q) →
      IsFirst alone moved (index_of q) s → IsEligible rules alone (index_of q) s → ⊥
  no_higher p s q c p_streams inside q_streams less first eligible =
      legal.strict_priority p s q c (omega (arith, less, classes p (has_index p s c) p_streams, classes q inside q_streams))
      (from_first q s inside q_streams first) (from_eligible q s inside q_streams eligible)

  -- so the starts of streams are legal alone, field by field
  legal_alone : AreSent n g r alone cycles moved
  legal_alone = record {
    in_order = renamed.in_order;
    before_end = λ k s c. let m = renamed.from k s c in legal.before_end m.0 s m.1;
    once = λ k s t c e.
        let m = renamed.from k s c in
        let o = renamed.from k t e in
        let one = one_index o.0 m.0 (has_index o.0 t o.1) (has_index m.0 s m.1) o.2 m.2 (o.3 ∙ sym m.3) in
        legal.once m.0 s t m.1 (subst (λ z. Contains starts (z, t)) one o.1);
    idle = λ k s c j t e less.
        let m = renamed.from k s c in
        let o = renamed.from j t e in
        let free : idle_after t (octets_of mixed o.0) r ≤ s = legal.idle m.0 s m.1 o.0 t o.1 less in
        let there : get_or mixed o.0 no_arrival ≡ get_or alone j no_arrival = sym (those.same o.0 (has_index o.0 t o.1) o.2)
        ∙ ap (λ z. get_or alone z no_arrival) o.3 in
        subst (λ (a : Arrival). idle_after t a.octets r ≤ s) there free;
    first = λ k s c. let m = renamed.from k s c in subst (λ z. IsFirst alone moved z s) m.3 (to_first m.0 s m.2 (legal.first m.0 s m.1));
    eligible = λ k s c. let m = renamed.from k s c in
        subst (λ z. IsEligible rules alone z s) m.3 (to_eligible m.0 s (has_index m.0 s m.1) m.2 (legal.eligible m.0 s m.1));
    strict_priority = λ k s other c less first eligible.
        let m = renamed.from k s c in
        let o = those.each other first.waits.inside in
        let at_indices = no_higher m.0 s o.0 m.1 m.2 o.1 o.2 in
        let at_other = subst (λ z. class_of alone (index_of m.0) < class_of alone z → IsFirst alone moved z s → IsEligible rules alone z s → ⊥) o.3 at_indices in
        subst (λ z. class_of alone z < class_of alone other → IsFirst alone moved other s → IsEligible rules alone other s →
        ⊥) m.3 at_other less first eligible;
    work_conserving = λ t other early idle first eligible.
        let o = those.each other first.waits.inside in
        subst (λ z. IsFirst alone moved z t → IsEligible rules alone z t → (k : ℕ) × Contains moved (k, t)) o.3
        (a_stream_starts o.0 t o.1 o.2 early idle) first eligible;
  }

-- a list's streams' frames, by their indices among them
streams_ranked : (arrivals : List Arrival) → AreTheStreamsOf arrivals (only_streams arrivals) (index_alone arrivals)
streams_ranked arrivals = record {
  inside = λ p inside streams. (kept_at_rank is_streams arrivals p no_arrival inside (le-leb 6 (class_of arrivals p) streams)).inside;
  same = λ p inside streams. (kept_at_rank is_streams arrivals p no_arrival inside (le-leb 6 (class_of arrivals p) streams)).same;
  in_order = λ q p less inside streams. rank_less is_streams arrivals q p no_arrival less (omega (arith, less, inside))
      (le-leb 6 (class_of arrivals q) streams);
  each = λ k inside. let p = ranked is_streams arrivals k no_arrival inside in (p.0, p.1, leb-true 6 (class_of arrivals p.0) p.2, p.3);
}

-- their starts
starts_ranked : (arrivals : List Arrival) (starts : List Transmission) → AllPairs (λ (a b : Transmission). a.1 < b.1) starts →
    AreTheStartsOf arrivals (index_alone arrivals) starts (starts_alone arrivals starts)
starts_ranked arrivals starts in_order = record {
  in_order = pairs_map (λ (a b : Transmission). a.1 < b.1) (start_alone arrivals) (filter (is_start_of_streams arrivals) starts)
      (AllPairs-filter (λ (a b : Transmission). a.1 < b.1) (is_start_of_streams arrivals) starts in_order);
  to = λ p s c streams. contains_map (start_alone arrivals) (filter (is_start_of_streams arrivals) starts) (p, s)
      (contains_filter (is_start_of_streams arrivals) starts (p, s) c (le-leb 6 (class_of arrivals p) streams));
  from = λ k s c.
      let m = contains_from_map (start_alone arrivals) (filter (is_start_of_streams arrivals) starts) (k, s) c in
      let kept = contains_from_filter (is_start_of_streams arrivals) starts m.0 m.1 in
      let at : m.0.1 ≡ s = ap (λ (x : Transmission). x.1) m.2 in
      (m.0.0, subst (λ z. Contains starts (m.0.0, z)) at kept.0, leb-true 6 (class_of arrivals m.0.0) kept.1, ap (λ (x : Transmission). x.0) m.2);
}

-- the law
pub streams_start_as_alone : StreamsStartAsAlone
streams_start_as_alone n g r arrivals cycles starts port legal =
    legal_alone n g r arrivals (only_streams arrivals) (index_alone arrivals) cycles starts (starts_alone arrivals starts) (streams_ranked arrivals)
    (starts_ranked arrivals starts legal.in_order) port legal
