-- A port starts everything as before if it is given streams' frames at the instants at which they started, and its background frames when
-- they arrive.
use Rattle.std.proofs.Common.{◌≡◌, ℕ, ◌<◌, ◌≤◌, ◌⊎◌, List, length, get_or, map, cond, inl, inr, sym, ap, ◌∙◌, subst, arith, Contains, le-leb}
use Rattle.std.proofs.lemmas.Bool.{cases_lt, cases_order, cond-false, cond-true, lt-leb}
use Rattle.cqf_units.specs.Timing.{ending_of, idle_after}
use Rattle.cqf_model.specs.declared.ports.Arrival.{Arrival}
use Rattle.cqf_model.specs.GateList.{IsOpenThrough}
use Rattle.cqf_model.specs.Port.{AreLegal, IsEligible, IsFirst, IsIdle, PortRules, Transmission, Waits, class_of, instant_of, no_arrival, octets_of}
use Rattle.cqf_model.specs.Due.{is_streams}
use Rattle.cqf_lists.proofs.Members.{contains_from_map, contains_map}
use Rattle.cqf_lists.proofs.Pairs.{one_of_pairs, pairs_map}
use Rattle.cqf_laws_cycle.specs.OnePort.{BackgroundAt, StreamsAt}

-- an arrival at another instant
abbrev pub retimed : ℕ → Arrival → Arrival
retimed t x = record { at = record { 0 = t }; class = x.class; octets = x.octets; frame = x.frame }

-- `alone` has the background frames of `mixed`, and its streams' frames that started, each at the instant of its start. `back_index` maps
-- the indices of the background frames, and `stream_index` gives the index of a stream's frame from its instant
pub record AreFedWith (mixed alone : List Arrival) (starts : List Transmission) (back_index stream_index : ℕ → ℕ) : Type 0 where
  pub back_inside : (p : ℕ) → p < length mixed → BackgroundAt mixed p → back_index p < length alone
  pub back_is : (p : ℕ) → p < length mixed → BackgroundAt mixed p → get_or alone (back_index p) no_arrival ≡ get_or mixed p no_arrival
  pub back_order : (q p : ℕ) → q < p → p < length mixed → BackgroundAt mixed q → BackgroundAt mixed p → back_index q < back_index p
  pub stream_inside : (p s : ℕ) → Contains starts (p, s) → StreamsAt mixed p → stream_index s < length alone
  pub stream_is : (p s : ℕ) → Contains starts (p, s) → StreamsAt mixed p →
      get_or alone (stream_index s) no_arrival ≡ retimed s (get_or mixed p no_arrival)
  pub each : (k : ℕ) → k < length alone → ((p : ℕ) × (s : ℕ) × Contains starts (p, s) × StreamsAt mixed p × (stream_index s ≡ k))
      ⊎ ((p : ℕ) × (p < length mixed) × BackgroundAt mixed p × (back_index p ≡ k))

-- a start of the frame at an index
abbrev start_at : ℕ → ℕ → Transmission
start_at p s = (p, s)

-- the index of a start in the other list
abbrev pub index_by : List Arrival → (ℕ → ℕ) → (ℕ → ℕ) → Transmission → ℕ
index_by mixed back_index stream_index start = cond (is_streams (get_or mixed start.0 no_arrival)) (stream_index start.1) (back_index start.0)

-- and the start with that index and its instant
abbrev pub moved_by : List Arrival → (ℕ → ℕ) → (ℕ → ℕ) → Transmission → Transmission
moved_by mixed back_index stream_index start = (index_by mixed back_index stream_index start, start.1)

module _ (rules : PortRules) (mixed alone : List Arrival) (end : ℕ) (starts : List Transmission) (back_index stream_index : ℕ → ℕ)
    (are : AreFedWith mixed alone starts back_index stream_index) (legal : AreLegal rules mixed end starts) where
  -- the index of a start in the other list
  abbrev index_of : Transmission → ℕ
  index_of = index_by mixed back_index stream_index

  -- the starts there
  abbrev moved : List Transmission
  moved = map (moved_by mixed back_index stream_index) starts

  -- for a stream's frame it depends on the instant
  of_stream : (p s : ℕ) → StreamsAt mixed p → index_of (p, s) ≡ stream_index s
  of_stream p s streams = cond-true (is_streams (get_or mixed p no_arrival)) (stream_index s) (back_index p) (le-leb 6 (class_of mixed p) streams)

  -- and for a background frame on the index
  of_back : (p s : ℕ) → BackgroundAt mixed p → index_of (p, s) ≡ back_index p
  of_back p s back = cond-false (is_streams (get_or mixed p no_arrival)) (stream_index s) (back_index p) (lt-leb 6 (class_of mixed p) back)

  -- what starts has an index
  has_index : (p s : ℕ) → Contains starts (p, s) → p < length mixed
  has_index p s c = (legal.first p s c).waits.inside

  -- what starts is in the other list with its class and octets, and has arrived
  record Stands (p s k : ℕ) : Type 0 where
    inside : k < length alone
    class : class_of alone k ≡ class_of mixed p
    octets : octets_of alone k ≡ octets_of mixed p
    come : instant_of alone k ≤ s

  -- this holds for each start
  stands : (p s : ℕ) → Contains starts (p, s) → Stands p s (index_of (p, s))
  stands p s c = elim (cases_lt (class_of mixed p) 6) [
    | inl back ↦
        let is = are.back_is p (has_index p s c) back in
        subst (Stands p s) (sym (of_back p s back)) (record {
          inside = are.back_inside p (has_index p s c) back;
          class = ap (λ (a : Arrival). a.class) is;
          octets = ap (λ (a : Arrival). a.octets) is;
          come = omega (arith, ap (λ (a : Arrival). a.at.0) is, (legal.first p s c).waits.come);
        })
    | inr streams ↦
        let is = are.stream_is p s c streams in
        subst (Stands p s) (sym (of_stream p s streams)) (record {
          inside = are.stream_inside p s c streams;
          class = ap (λ (a : Arrival). a.class) is;
          octets = ap (λ (a : Arrival). a.octets) is;
          come = omega (arith, ap (λ (a : Arrival). a.at.0) is);
        })
  ]

  -- two starts at one instant are the same
  one_start : (a b : Transmission) → Contains starts a → Contains starts b → a.1 ≡ b.1 → a ≡ b
  one_start a b c e same = one_of_pairs (λ (x y : Transmission). x.1 < y.1) starts a b legal.in_order c e (λ less. omega (arith, less, same))
      (λ less. omega (arith, less, same))

  -- background frames with the same index in the other list have the same index here
  one_back : (p q : ℕ) → p < length mixed → q < length mixed → BackgroundAt mixed p → BackgroundAt mixed q → back_index p ≡ back_index q → p ≡ q
  one_back p q p_inside q_inside p_back q_back same = elim (cases_order p q) [
    | inl e ↦ e
    | inr o ↦ elim o [
      | inl less ↦ absurd (omega (arith, are.back_order p q less q_inside p_back q_back, same))
      | inr more ↦ absurd (omega (arith, are.back_order q p more p_inside q_back p_back, same))
    ]
  ]

  -- and their order there is their order here
  order_back : (q p : ℕ) → q < length mixed → p < length mixed → BackgroundAt mixed q → BackgroundAt mixed p → back_index q < back_index p → q < p
  order_back q p q_inside p_inside q_back p_back less = elim (cases_order q p) [
    | inl e ↦ absurd (omega (arith, ap back_index e, less))
    | inr o ↦ elim o [
      | inl before ↦ before
      | inr following ↦ absurd (omega (arith, are.back_order p q following q_inside p_back q_back, less))
    ]
  ]

  -- a start there is one of these
  record CameFrom (k s : ℕ) : Type 0 where
    p : ℕ
    started : Contains starts (p, s)
    is_index : index_of (p, s) ≡ k

  -- it is the moved one
  from_moved : (k s : ℕ) → Contains moved (k, s) → CameFrom k s
  from_moved k s c =
      let m = contains_from_map (moved_by mixed back_index stream_index) starts (k, s) c in
      let at : m.0.1 ≡ s = ap (λ (x : Transmission). x.1) m.2 in
      record {
        p = m.0.0;
        started = subst (λ z. Contains starts (m.0.0, z)) at m.1;
        is_index = ap (λ z. index_of (m.0.0, z)) (sym at) ∙ ap (λ (x : Transmission). x.0) m.2;
      }

  -- each of these is one there
  to_moved : (p s : ℕ) → Contains starts (p, s) → Contains moved (index_of (p, s), s)
  to_moved p s c = contains_map (moved_by mixed back_index stream_index) starts (p, s) c

  -- a start at the index of a stream's start is that start
  stream_back : (p s k t : ℕ) → Contains starts (p, s) → StreamsAt mixed p → stream_index s ≡ k → Contains moved (k, t) → s ≡ t
  stream_back p s k t c streams is e = same (from_moved k t e)
    where
      -- the stream's frame at its start is there
      here : get_or alone k no_arrival ≡ retimed s (get_or mixed p no_arrival)
      here = ap (λ z. get_or alone z no_arrival) (sym is) ∙ are.stream_is p s c streams

      -- and so it starts at that instant
      same : CameFrom k t → s ≡ t
      same m = elim (cases_lt (class_of mixed m.p) 6) [
        | inl back ↦
            let stands_there = are.back_is m.p (has_index m.p t m.started) back in
            let at : get_or alone k no_arrival ≡ get_or mixed m.p no_arrival =
            ap (λ z. get_or alone z no_arrival) (sym m.is_index ∙ of_back m.p t back) ∙ stands_there in
            absurd (omega (arith, ap (λ (a : Arrival). a.class) here, ap (λ (a : Arrival). a.class) at, streams, back))
        | inr own ↦
            let at : get_or alone k no_arrival ≡ retimed t (get_or mixed m.p no_arrival) =
            ap (λ z. get_or alone z no_arrival) (sym m.is_index ∙ of_stream m.p t own) ∙ are.stream_is m.p t m.started own in
            omega (arith, ap (λ (a : Arrival). a.at.0) here, ap (λ (a : Arrival). a.at.0) at)
      ]

  -- a stream's frame that waits there starts at that instant
  waits_to_start : (p s k t : ℕ) → Contains starts (p, s) → StreamsAt mixed p → stream_index s ≡ k → Waits alone moved k t → s ≡ t
  waits_to_start p s k t c streams is waits =
      let stands_there = are.stream_is p s c streams in
      let come : s ≤ t = omega (arith, waits.come, ap (λ z. instant_of alone z) is, ap (λ (a : Arrival). a.at.0) stands_there) in
      let in_moved : Contains moved (k, s) = subst (λ z. Contains moved (z, s)) (of_stream p s streams ∙ is) (to_moved p s c) in
      omega (arith, come, waits.not_started s in_moved)

  -- a background frame that waits there waits here
  back_waits : (p k t : ℕ) → p < length mixed → BackgroundAt mixed p → back_index p ≡ k → Waits alone moved k t → Waits mixed starts p t
  back_waits p k t inside back is waits = record {
    inside = inside;
    come = omega (arith, waits.come, ap (λ z. instant_of alone z) is, ap (λ (a : Arrival). a.at.0) (are.back_is p inside back));
    not_started = λ s c. waits.not_started s (subst (λ z. Contains moved (z, s)) (of_back p s back ∙ is) (to_moved p s c));
  }

  -- and conversely
  waits_back : (p t : ℕ) → p < length mixed → BackgroundAt mixed p → Waits mixed starts p t → Waits alone moved (back_index p) t
  waits_back p t inside back waits = record {
    inside = are.back_inside p inside back;
    come = omega (arith, waits.come, ap (λ (a : Arrival). a.at.0) (are.back_is p inside back));
    not_started = λ s c. waits.not_started s (own s (from_moved (back_index p) s c));
  }
    where
      -- a start there is the background frame's own
      own : (s : ℕ) → CameFrom (back_index p) s → Contains starts (p, s)
      own s m = elim (cases_lt (class_of mixed m.p) 6) [
        | inl low ↦ subst (λ z. Contains starts (z, s))
            (one_back m.p p (has_index m.p s m.started) inside low back (sym (of_back m.p s low) ∙ m.is_index)) m.started
        | inr high ↦
            let class = (stands m.p s m.started).class in
            let at : class_of alone (index_of (m.p, s)) ≡ class_of mixed p =
            ap (class_of alone) m.is_index ∙ ap (λ (a : Arrival). a.class) (are.back_is p inside back) in
            absurd (omega (arith, class, at, high, back))
      ]

  -- a background frame that is the first of its class there is so here
  back_first : (p k t : ℕ) → p < length mixed → BackgroundAt mixed p → back_index p ≡ k → IsFirst alone moved k t → IsFirst mixed starts p t
  back_first p k t inside back is first = record { waits = back_waits p k t inside back is first.waits; none_before = none_before }
    where
      class_there : class_of alone k ≡ class_of mixed p
      class_there = ap (class_of alone) (sym is) ∙ ap (λ (a : Arrival). a.class) (are.back_is p inside back)

      -- none of its class waits before it
      none_before : (q : ℕ) → q < p → class_of mixed q ≡ class_of mixed p → Waits mixed starts q t → ⊥
      none_before q less same waits =
          let q_back : BackgroundAt mixed q = omega (arith, same, back) in
          first.none_before (back_index q) (omega (arith, are.back_order q p less inside q_back back, is))
          (ap (λ (a : Arrival). a.class) (are.back_is q waits.inside q_back) ∙ same ∙ sym class_there)
          (waits_back q t waits.inside q_back waits)

  -- idle there is idle here
  to_idle : (t : ℕ) → IsIdle rules alone moved t → IsIdle rules mixed starts t
  to_idle t idle p s c less =
      let there : idle_after s (octets_of alone (index_of (p, s))) rules.octet_time ≤ t = idle (index_of (p, s)) s (to_moved p s c) less in
      subst (λ z. idle_after s z rules.octet_time ≤ t) (stands p s c).octets there

  -- and conversely
  from_idle : (t : ℕ) → IsIdle rules mixed starts t → IsIdle rules alone moved t
  from_idle t idle k s c less =
      let m = from_moved k s c in
      let here : idle_after s (octets_of mixed m.p) rules.octet_time ≤ t = idle m.p s m.started less in
      let octets : octets_of mixed m.p ≡ octets_of alone k = sym (stands m.p s m.started).octets ∙ ap (octets_of alone) m.is_index in
      subst (λ z. idle_after s z rules.octet_time ≤ t) octets here

  -- in either list the same class and octets are eligible
  same_eligible : (xs ys : List Arrival) (i j t : ℕ) → class_of xs i ≡ class_of ys j → octets_of xs i ≡ octets_of ys j → IsEligible rules xs i t
      → IsEligible rules ys j t
  same_eligible xs ys i j t class octets eligible =
      subst (λ c. IsOpenThrough rules.entries c t (ending_of t (octets_of ys j) rules.octet_time)) class
      (subst (λ o. IsOpenThrough rules.entries (class_of xs i) t (ending_of t o rules.octet_time)) octets eligible)

  -- a background frame's eligibility
  back_eligible : (p k t : ℕ) → p < length mixed → BackgroundAt mixed p → back_index p ≡ k → IsEligible rules alone k t → IsEligible rules mixed p t
  back_eligible p k t inside back is eligible =
      let at : get_or alone k no_arrival ≡ get_or mixed p no_arrival = ap (λ z. get_or alone z no_arrival) (sym is) ∙ are.back_is p inside back in
      same_eligible alone mixed k p t (ap (λ (a : Arrival). a.class) at) (ap (λ (a : Arrival). a.octets) at) eligible

  -- no frame of its class waits there before one that starts
  none_there : (p s j : ℕ) → Contains starts (p, s) → j < index_of (p, s) → class_of alone j ≡ class_of alone (index_of (p, s)) → Waits alone moved j s → ⊥
  none_there p s j c less same waits = elim (are.each j waits.inside) [
    | inl own ↦
        let at : own.1 ≡ s = waits_to_start own.0 own.1 j s own.2 own.3 own.4 waits in
        let one : start_at own.0 own.1 ≡ start_at p s = one_start (start_at own.0 own.1) (start_at p s) own.2 c at in
        let there : index_of (p, s) ≡ j = ap index_of (sym one) ∙ of_stream own.0 own.1 own.3 ∙ own.4 in
        omega (arith, less, there)
    | inr back ↦
        let class = ap (class_of alone) back.3 in
        let own_class = ap (λ (a : Arrival). a.class) (are.back_is back.0 back.1 back.2) in
        let same_class : class_of mixed back.0 ≡ class_of mixed p = omega (arith, class, own_class, same, (stands p s c).class) in
        let low : BackgroundAt mixed p = omega (arith, same_class, back.2) in
        let before : back.0 < p = order_back back.0 p back.1 (has_index p s c) back.2 low (omega (arith, less, back.3, of_back p s low)) in
        (legal.first p s c).none_before back.0 before same_class (back_waits back.0 j s back.1 back.2 back.3 waits)
  ]

  -- what starts is the first of its class there
  first_there : (p s : ℕ) → Contains starts (p, s) → IsFirst alone moved (index_of (p, s)) s
  first_there p s c = record {
    waits = record {
      inside = (stands p s c).inside;
      come = (stands p s c).come;
      not_started = λ t e. omega (arith, same_instant t (from_moved (index_of (p, s)) t e));
    };
    none_before = λ j less same waits. none_there p s j c less same waits;
  }
    where
      -- a start at its index is at its instant
      same_instant : (t : ℕ) → CameFrom (index_of (p, s)) t → s ≡ t
      same_instant t m = elim (cases_lt (class_of mixed p) 6) [
        | inl back ↦ elim (cases_lt (class_of mixed m.p) 6) [
          | inl low ↦
              let one : m.p ≡ p = one_back m.p p (has_index m.p t m.started) (has_index p s c) low back
              (sym (of_back m.p t low) ∙ m.is_index ∙ of_back p s back) in
              legal.once p s t c (subst (λ z. Contains starts (z, t)) one m.started)
          | inr high ↦ absurd (omega (arith, (stands m.p t m.started).class, (stands p s c).class, ap (class_of alone) m.is_index, high, back))
        ]
        | inr streams ↦ stream_back p s (index_of (p, s)) t c streams (sym (of_stream p s streams))
            (subst (λ z. Contains moved (z, t)) m.is_index (to_moved m.p t m.started))
      ]

  -- no frame of a higher class may start there instead
  none_higher : (p s other : ℕ) → Contains starts (p, s) → class_of alone (index_of (p, s)) < class_of alone other → IsFirst alone moved other s →
      IsEligible rules alone other s → ⊥
  none_higher p s other c less first eligible = elim (are.each other first.waits.inside) [
    | inl own ↦
        let at : own.1 ≡ s = waits_to_start own.0 own.1 other s own.2 own.3 own.4 first.waits in
        let one : start_at own.0 own.1 ≡ start_at p s = one_start (start_at own.0 own.1) (start_at p s) own.2 c at in
        let there : index_of (p, s) ≡ other = ap index_of (sym one) ∙ of_stream own.0 own.1 own.3 ∙ own.4 in
        omega (arith, less, ap (class_of alone) there)
    | inr back ↦
        let class = ap (class_of alone) back.3 in
        let own_class = ap (λ (a : Arrival). a.class) (are.back_is back.0 back.1 back.2) in
        legal.strict_priority p s back.0 c (omega (arith, less, class, own_class, (stands p s c).class))
        (back_first back.0 other s back.1 back.2 back.3 first) (back_eligible back.0 other s back.1 back.2 back.3 eligible)
  ]

  -- if a frame may start there, one starts
  some_starts : (t other : ℕ) → t < end → IsIdle rules alone moved t → IsFirst alone moved other t → IsEligible rules alone other t →
      (k : ℕ) × Contains moved (k, t)
  some_starts t other early idle first eligible = elim (are.each other first.waits.inside) [
    | inl own ↦
        let at : own.1 ≡ t = waits_to_start own.0 own.1 other t own.2 own.3 own.4 first.waits in
        (index_of (own.0, own.1), subst (λ z. Contains moved (index_of (own.0, own.1), z)) at (to_moved own.0 own.1 own.2))
    | inr back ↦
        let w = legal.work_conserving t back.0 early (to_idle t idle) (back_first back.0 other t back.1 back.2 back.3 first)
        (back_eligible back.0 other t back.1 back.2 back.3 eligible) in
        (index_of (w.0, t), to_moved w.0 t w.1)
  ]

  -- so the starts are legal there, field by field
  pub legal_there : AreLegal rules alone end moved
  legal_there = record {
    in_order = pairs_map (λ (a b : Transmission). a.1 < b.1) (moved_by mixed back_index stream_index) starts legal.in_order;
    before_end = λ k s c. let m = from_moved k s c in legal.before_end m.p s m.started;
    once = λ k s t c e. let m = from_moved k s c in
        omega (arith, (first_there m.p s m.started).waits.not_started t (subst (λ z. Contains moved (z, t)) (sym m.is_index) e), again t s k e c);
    idle = λ k s c. let m = from_moved k s c in from_idle s (legal.idle m.p s m.started);
    first = λ k s c. let m = from_moved k s c in subst (λ z. IsFirst alone moved z s) m.is_index (first_there m.p s m.started);
    eligible = λ k s c. let m = from_moved k s c in
        let there = stands m.p s m.started in
        subst (λ z. IsEligible rules alone z s) m.is_index
        (same_eligible mixed alone m.p (index_of (m.p, s)) s (sym there.class) (sym there.octets) (legal.eligible m.p s m.started));
    strict_priority = λ k s other c less first eligible. let m = from_moved k s c in
        none_higher m.p s other m.started (subst (λ z. class_of alone z < class_of alone other) (sym m.is_index) less) first eligible;
    work_conserving = some_starts;
  }
    where
      -- and conversely
      again : (t s k : ℕ) → Contains moved (k, t) → Contains moved (k, s) → t ≤ s
      again t s k e c = let m = from_moved k t e in
          (first_there m.p t m.started).waits.not_started s (subst (λ z. Contains moved (z, s)) (sym m.is_index) c)
