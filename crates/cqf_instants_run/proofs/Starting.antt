-- A port starts the same background frames if the streams' frames arrive when they start.
use Rattle.std.proofs.Common.{◌≡◌, ℕ, ◌+◌, ◌-◌, ◌/◌, ◌<◌, ◌≤◌, ◌⊎◌, ◌↔◌, ◌++◌, ◌∷◌, [], All, Bool, true, not, cond}
use Rattle.std.proofs.Common.{List, None, Option, Some, length, get_or, filter}
use Rattle.std.proofs.Common.{map, nat_lt, is_some, inl, inr, sym, ap, ◌∙◌, subst, arith, refl, AllPairs, Contains, le-leb, leb-true, length-append}
use Rattle.std.proofs.lemmas.Bool.{cases_lt, cond-false, cond-true, false≢true, le-ltb, lt-leb, lt-ltb}
use Rattle.std.proofs.lemmas.List.{length-map, get_or-append_right, get_or-map, get_or_append_left}
use Rattle.std.proofs.lemmas.List.Elements.{All-contains, Contains-get_or}
use Rattle.std.proofs.lemmas.List.Kept.{AllPairs-filter}
use Rattle.cqf_units.specs.Timing.{ending_of}
use Rattle.cqf_units.proofs.Cycles.{cycle_from, cycle_upto}
use Rattle.cqf_model.specs.declared.frames.Sent.{Sent}
use Rattle.cqf_model.specs.declared.ports.Arrival.{Arrival}
use Rattle.cqf_model.specs.declared.ports.Start.{Start}
use Rattle.cqf_model.specs.Domain.{Domain, IsAccepted, guard_of, octet_time_of}
use Rattle.cqf_model.specs.Network.{QueuedFrame, Sends, arrivals_of, backed_by, backed_of, compiled_lists, no_frame, sent_by, sent_of}
use Rattle.cqf_model.specs.Port.{AreLegal, PortRules, Transmission, class_of, no_arrival, octets_of}
use Rattle.cqf_model.specs.Due.{is_streams}
use Rattle.cqf_model.proofs.Legal.{ends_later}
use Rattle.cqf_model.proofs.Links.{delay_within, guard_within, octet_positive}
use Rattle.cqf_lists.proofs.Filters.{filter-map, filter_alike}
use Rattle.cqf_lists.proofs.Kept.{flat_none}
use Rattle.cqf_lists.proofs.Members.{contains_filter, contains_from_filter}
use Rattle.cqf_lists.proofs.Ranks.{StandsAtRank, kept_at_rank, rank, rank_less, ranked}
use Rattle.cqf_laws_cycle.specs.Beside.{IsReportedByClass, is_start_of_streams}
use Rattle.cqf_laws_cycle.specs.Compiled.{PortListSends, open_class}
use Rattle.cqf_laws_cycle.specs.OnePort.{BackgroundAt, StreamsAt}
use Rattle.cqf_port.specs.PortState.{start_of}
use Rattle.cqf_instants_run.specs.Feeding.{arrival_of_sent, backs_among, fed, is_background}
use Rattle.cqf_instants_run.specs.Sending.{Backs, PortStartsTheBackground, is_low}
use Rattle.cqf_instants_run.proofs.StartCounts.{many_at, many_before, stands_after}
use Rattle.cqf_instants_run.proofs.Kept.{flat_filter, map_flat}
use Rattle.cqf_instants_run.proofs.Retimed.{AreFedWith, index_by, legal_there, moved_by}
use Rattle.cqf_instants_run.proofs.Retimed.{retimed}

-- the arrival is of no stream
abbrev is_other : Arrival → Bool
is_other a = not (is_streams a)

-- it is of no stream if its class is low
other_low : (a : Arrival) → a.class < 6 → is_other a ≡ true
other_low a low = ap not (lt-leb 6 a.class low)

-- and only then
low_other : (a : Arrival) → is_other a ≡ true → a.class < 6
low_other a other = elim (cases_lt a.class 6) [
  | inl low ↦ low
  | inr high ↦ absurd (false≢true (sym (ap not (le-leb 6 a.class high)) ∙ other))
]

-- a value isn't none
some_there : (k : ℕ) → (Some k ≡ None) → ⊥
some_there k e = false≢true (sym (ap is_some e))

-- the start of an arrival at an instant
abbrev start_from : ℕ → Arrival → Start
start_from t a = record { start = record { 0 = t }; class = a.class; octets = a.octets; frame = a.frame }

-- a frame that is recognised by its class is of a stream if it has a stream's class
reported_high : (a : Arrival) (k : ℕ) → ((Some k ≡ None) ↔ (a.class < 6)) → 6 ≤ a.class
reported_high a k reported = elim (cases_lt a.class 6) [
  | inl low ↦ absurd (some_there k (reported.1 low))
  | inr high ↦ high
]

-- what a transmission sends of a stream arrives when it starts
one_sent : (d : Domain) (t : ℕ) (a : Arrival) (stream : Option ℕ) → ((stream ≡ None) ↔ (a.class < 6)) →
    (6 ≤ a.class → a.class ≡ open_class (t / d.cycle_time)) →
    map (arrival_of_sent d) (sent_by t a stream) ≡ cond (is_streams a) (retimed t a ∷ []) []
one_sent d t a None reported class = sym (cond-false (is_streams a) (retimed t a ∷ []) [] (lt-leb 6 a.class (reported.0 refl)))
one_sent d t a (Some k) reported class =
    let high = reported_high a k reported in
    ap (λ c. of_class c ∷ []) (sym (class high)) ∙ sym (cond-true (is_streams a) (retimed t a ∷ []) [] (le-leb 6 a.class high))
  where
    -- it has the class that its cycle sends
    of_class : ℕ → Arrival
    of_class c = record { at = record { 0 = t }; class = c; octets = a.octets; frame = a.frame }

-- and what it sends of no stream is what a port starts for the same arrival
one_backed : (t : ℕ) (a b : Arrival) (stream : Option ℕ) → ((stream ≡ None) ↔ (a.class < 6)) → (a.class < 6 → b ≡ a) → (6 ≤ a.class → b.class ≡ a.class) →
    backed_by t a stream ≡ cond (is_low (start_from t b)) (start_from t b ∷ []) []
one_backed t a b None reported same class =
    subst (λ (z : Arrival). backed_by t a None ≡ cond (is_low (start_from t z)) (start_from t z ∷ []) []) (sym (same (reported.0 refl)))
    (sym (cond-true (is_low (start_from t a)) (start_from t a ∷ []) [] (lt-ltb a.class 6 (reported.0 refl))))
one_backed t a b (Some k) reported same class =
    let high = reported_high a k reported in
    sym (cond-false (is_low (start_from t b)) (start_from t b ∷ []) [] (le-ltb b.class 6 (omega (arith, class high, high))))

-- if there are background frames, all is given
pub given_whole : (frames streams : List Arrival) → 0 < length frames → fed frames streams ≡ frames ++ streams
given_whole [] streams some = absurd (omega (arith, some))
given_whole (x ∷ frames) streams some = refl

-- and else nothing is
pub given_none : (frames streams : List Arrival) → length frames ≡ 0 → fed frames streams ≡ []
given_none [] streams none = refl
given_none (x ∷ frames) streams none = absurd (omega (arith, none))

-- if nothing arrives, nothing starts
nothing_starts : (rules : PortRules) (end : ℕ) → AreLegal rules [] end []
nothing_starts rules end = record {
  in_order = λ i j e less inside. absurd (omega (arith, inside));
  before_end = λ index s c. absurd (omega (arith, c.1));
  once = λ index s t c e. absurd (omega (arith, c.1));
  idle = λ index s c. absurd (omega (arith, c.1));
  first = λ index s c. absurd (omega (arith, c.1));
  eligible = λ index s c. absurd (omega (arith, c.1));
  strict_priority = λ index s other c. absurd (omega (arith, c.1));
  work_conserving = λ t other early idle first eligible. absurd (omega (arith, first.waits.inside));
}

module _ (law : PortListSends) (d : Domain) (end l : ℕ) (queued : List QueuedFrame) (sents : List Sent) (backed : List Start)
    (accepted : IsAccepted d) (is_link : l < length d.links) (reported : All IsReportedByClass queued)
    (sends : Sends d (compiled_lists d l) end l queued sents backed) where
  -- the port's rules
  abbrev rules : PortRules
  rules = record { entries = compiled_lists d l; octet_time = octet_time_of d l }

  -- what arrives at it
  abbrev mixed : List Arrival
  mixed = arrivals_of queued

  -- the starts
  abbrev starts : List Transmission
  starts = sends.starts

  -- the starts of streams' frames
  abbrev own : List Transmission
  own = filter (is_start_of_streams mixed) starts

  -- the background frames
  abbrev others : List Arrival
  others = filter is_other mixed

  -- a stream's frame when it starts
  abbrev as_started : Transmission → Arrival
  as_started x = retimed x.1 (get_or mixed x.0 no_arrival)

  -- what the port is given
  abbrev alone : List Arrival
  alone = others ++ map as_started own

  -- the index of a background frame in it
  abbrev back_index : ℕ → ℕ
  back_index p = rank is_other mixed p

  -- and of a stream's frame, by the instant of its start
  abbrev stream_index : ℕ → ℕ
  stream_index s = length others + many_before own s

  -- the frame at an index and its arrival
  arrival_at : (p : ℕ) → p < length mixed → get_or mixed p no_arrival ≡ (get_or queued p no_frame).arrival
  arrival_at p inside = get_or-map (λ (x : QueuedFrame). x.arrival) queued p no_frame no_arrival
      (omega (arith, inside, length-map queued (λ (x : QueuedFrame). x.arrival)))

  -- the streams' starts are in order
  own_in_order : AllPairs (λ (a b : Transmission). a.1 < b.1) own
  own_in_order = AllPairs-filter (λ (a b : Transmission). a.1 < b.1) (is_start_of_streams mixed) starts sends.legal.in_order

  -- a start of a stream's frame is one of them
  is_own : (p s : ℕ) → Contains starts (p, s) → StreamsAt mixed p → Contains own (p, s)
  is_own p s c streams = contains_filter (is_start_of_streams mixed) starts (p, s) c (le-leb 6 (class_of mixed p) streams)

  -- an index after the background frames
  following : (k : ℕ) → get_or alone (length others + k) no_arrival ≡ get_or (map as_started own) k no_arrival
  following k =
      let left : (length others + k) - length others ≡ k = omega arith in
      get_or-append_right others (map as_started own) (length others) (length others + k) no_arrival refl (omega arith)
      ∙ ap (λ z. get_or (map as_started own) z no_arrival) left

  -- its length
  length_alone : length alone ≡ length others + length own
  length_alone = length-append others (map as_started own) ∙ ap (λ z. length others + z) (length-map own as_started)

  -- each index of it is one of these
  each_index : (k : ℕ) → k < length alone → ((p : ℕ) × (s : ℕ) × Contains starts (p, s) × StreamsAt mixed p × (stream_index s ≡ k))
      ⊎ ((p : ℕ) × (p < length mixed) × BackgroundAt mixed p × (back_index p ≡ k))
  each_index k inside = elim (cases_lt k (length others)) [
    | inl front ↦
        let p = ranked is_other mixed k no_arrival front in
        inr (p.0, p.1, low_other (get_or mixed p.0 no_arrival) p.2, p.3)
    | inr rest ↦
        let j = k - length others in
        let within : j < length own = omega (arith, inside, length_alone, rest) in
        let x = get_or own j (0, 0) in
        let kept = contains_from_filter (is_start_of_streams mixed) starts x (Contains-get_or own j (0, 0) within) in
        let many = many_at own j (0, 0) own_in_order within in
        inl (x.0, x.1, kept.0, leb-true 6 (class_of mixed x.0) kept.1, omega (arith, many, rest))
  ]

  -- so it satisfies the law of a port that is fed with them
  are_fed : AreFedWith mixed alone starts back_index stream_index
  are_fed = record {
    back_inside = λ p inside back. omega (arith, length_alone, (at_rank p inside back).inside);
    back_is = λ p inside back. let r = at_rank p inside back in get_or_append_left others (map as_started own) no_arrival (back_index p) r.inside ∙ r.same;
    back_order = λ q p less inside q_back p_back. rank_less is_other mixed q p no_arrival less (omega (arith, less, inside))
        (other_low (get_or mixed q no_arrival) q_back);
    stream_inside = λ p s c streams. omega (arith, length_alone, (stands_after own (p, s) (0, 0) own_in_order (is_own p s c streams)).inside);
    stream_is = λ p s c streams. let r = stands_after own (p, s) (0, 0) own_in_order (is_own p s c streams) in
        following (many_before own s) ∙ get_or-map as_started own (many_before own s) (0, 0) no_arrival r.inside ∙ ap as_started r.same;
    each = each_index;
  }
    where
      -- a background frame is at its rank
      at_rank : (p : ℕ) → p < length mixed → BackgroundAt mixed p → StandsAtRank is_other mixed p no_arrival
      at_rank p inside back = kept_at_rank is_other mixed p no_arrival inside (other_low (get_or mixed p no_arrival) back)

  -- so the starts are legal for it
  abbrev moved : List Transmission
  moved = map (moved_by mixed back_index stream_index) starts

  -- they are, by the law of a port that is fed with them
  legal_alone : AreLegal rules alone end moved
  legal_alone = legal_there rules mixed alone end starts back_index stream_index are_fed sends.legal

  -- what starts is recognised by its class
  reported_at : (p s : ℕ) → Contains starts (p, s) → ((get_or queued p no_frame).stream ≡ None) ↔ ((get_or queued p no_frame).arrival.class < 6)
  reported_at p s c = reported p no_frame (omega (arith, (sends.legal.first p s c).waits.inside, length-map queued (λ (x : QueuedFrame). x.arrival)))

  -- a stream's frame has the class that the cycle of its start sends
  class_sent : (p s : ℕ) → Contains starts (p, s) → 6 ≤ class_of mixed p → class_of mixed p ≡ open_class (s / d.cycle_time)
  class_sent p s c high =
      let some_cycle : 0 < d.cycle_time = omega (arith, accepted.cycle_least) in
      let some_guard : 0 < guard_of d l = omega (arith, delay_within d l accepted is_link) in
      let sent = (law d.cycle_time (guard_of d l) (s / d.cycle_time) s (ending_of s (octets_of mixed p) (octet_time_of d l)) (class_of mixed p) some_guard
      (guard_within d l accepted) (cycle_from d.cycle_time s, cycle_upto d.cycle_time s some_cycle)
      (ends_later s (octets_of mixed p) (octet_time_of d l) (octet_positive d l is_link))).0
      (sends.legal.eligible p s c) in
      elim (sent.0) [
        | inl is ↦ is
        | inr low ↦ absurd (omega (arith, low, high))
      ]

  -- the streams' frames that arrive are those that are sent
  streams_come : map as_started own ≡ map (arrival_of_sent d) sents
  streams_come = sym (ap (map (arrival_of_sent d)) sends.are_sent
      ∙ map_flat (sent_of queued) (arrival_of_sent d) (is_start_of_streams mixed) as_started starts one)
    where
      -- one start sends one frame, or none of a stream
      one : (x : Transmission) → Contains starts x → map (arrival_of_sent d) (sent_of queued x) ≡ cond (is_start_of_streams mixed x) (as_started x ∷ []) []
      one x c =
          let q = get_or queued x.0 no_frame in
          let at = arrival_at x.0 (sends.legal.first x.0 x.1 c).waits.inside in
          subst (λ (a : Arrival). map (arrival_of_sent d) (sent_by x.1 q.arrival q.stream) ≡ cond (is_streams a) (retimed x.1 a ∷ []) []) (sym at)
          (one_sent d x.1 q.arrival q.stream (reported_at x.0 x.1 c)
          (subst (λ (a : Arrival). 6 ≤ a.class → a.class ≡ open_class (x.1 / d.cycle_time)) at (class_sent x.0 x.1 c)))

  -- the other frames that are sent are those of a low class that start
  backs_start : backed ≡ filter is_low (map (start_of alone) moved)
  backs_start = sends.are_backed ∙ flat_filter (backed_of queued) (moved_by mixed back_index stream_index) (start_of alone) is_low starts one
    where
      -- the arrival at a start's index
      there : (x : Transmission) → Arrival
      there x = get_or alone (index_by mixed back_index stream_index x) no_arrival

      -- a background frame is the same there
      same : (x : Transmission) → Contains starts x → class_of mixed x.0 < 6 → there x ≡ get_or mixed x.0 no_arrival
      same x c low =
          ap (λ k. get_or alone k no_arrival) (cond-false (is_streams (get_or mixed x.0 no_arrival)) (stream_index x.1) (back_index x.0)
          (lt-leb 6 (class_of mixed x.0) low))
          ∙ are_fed.back_is x.0 (sends.legal.first x.0 x.1 c).waits.inside low

      -- and a stream's frame has its class
      class_there : (x : Transmission) → Contains starts x → 6 ≤ class_of mixed x.0 → (there x).class ≡ class_of mixed x.0
      class_there x c high =
          ap (λ k. class_of alone k) (cond-true (is_streams (get_or mixed x.0 no_arrival)) (stream_index x.1) (back_index x.0)
          (le-leb 6 (class_of mixed x.0) high))
          ∙ ap (λ (a : Arrival). a.class) (are_fed.stream_is x.0 x.1 c high)

      -- one start is of one background frame, or of none
      one : (x : Transmission) → Contains starts x →
          backed_of queued x ≡ cond (is_low (start_from x.1 (there x))) (start_from x.1 (there x) ∷ []) []
      one x c =
          let q = get_or queued x.0 no_frame in
          let at = arrival_at x.0 (sends.legal.first x.0 x.1 c).waits.inside in
          one_backed x.1 q.arrival (there x) q.stream (reported_at x.0 x.1 c)
          (subst (λ (a : Arrival). a.class < 6 → there x ≡ a) at (same x c))
          (subst (λ (a : Arrival). 6 ≤ a.class → (there x).class ≡ a.class) at (class_there x c))

  -- the background frames are those of no stream
  backs_are : others ≡ backs_among queued
  backs_are = filter-map (λ (x : QueuedFrame). x.arrival) is_other queued
      ∙ ap arrivals_of (filter_alike (λ (x : QueuedFrame). is_other x.arrival) is_background queued
      (λ x c. same_test x (All-contains IsReportedByClass queued x reported c)))
    where
      -- by its class a frame is of no stream
      by_stream : (stream : Option ℕ) (class : ℕ) → ((stream ≡ None) ↔ (class < 6)) → not (is_some stream) ≡ nat_lt class 6
      by_stream None class t = sym (lt-ltb class 6 (t.0 refl))
      by_stream (Some k) class t = elim (cases_lt class 6) [
        | inl low ↦ absurd (some_there k (t.1 low))
        | inr high ↦ sym (le-ltb class 6 high)
      ]

      -- by its class an arrival is of no stream
      low_test : (a : Arrival) → is_other a ≡ nat_lt a.class 6
      low_test a = elim (cases_lt a.class 6) [
        | inl low ↦ other_low a low ∙ sym (lt-ltb a.class 6 low)
        | inr high ↦ ap not (le-leb 6 a.class high) ∙ sym (le-ltb a.class 6 high)
      ]

      -- so both tests are the same
      same_test : (x : QueuedFrame) → IsReportedByClass x → is_other x.arrival ≡ is_background x
      same_test x t = low_test x.arrival ∙ sym (by_stream x.stream x.arrival.class t)

  -- if there is no background frame, none starts
  none_starts : length others ≡ 0 → backed ≡ []
  none_starts none = sends.are_backed ∙ flat_none (backed_of queued) starts one
    where
      -- a stream's frame is no background frame
      nothing : (t : ℕ) (a : Arrival) (stream : Option ℕ) → ((stream ≡ None) ↔ (a.class < 6)) → (a.class < 6 → ⊥) → backed_by t a stream ≡ []
      nothing t a None t_reported high = absurd (high (t_reported.0 refl))
      nothing t a (Some k) t_reported high = refl

      -- no start is of a background frame
      one : (x : Transmission) → Contains starts x → backed_of queued x ≡ []
      one x c =
          let q = get_or queued x.0 no_frame in
          let inside = (sends.legal.first x.0 x.1 c).waits.inside in
          nothing x.1 q.arrival q.stream (reported_at x.0 x.1 c)
          (subst (λ (a : Arrival). a.class < 6 → ⊥) (arrival_at x.0 inside)
          (λ low. omega (arith, none, (kept_at_rank is_other mixed x.0 no_arrival inside (other_low (get_or mixed x.0 no_arrival) low)).inside)))

  -- so the port starts the same background frames
  starts_background : Backs d end l (fed (backs_among queued) (map (arrival_of_sent d) sents)) backed
  starts_background = elim (cases_lt 0 (length others)) [
    | inl some ↦
        let whole : alone ≡ fed (backs_among queued) (map (arrival_of_sent d) sents) =
        sym (given_whole others (map as_started own) some) ∙ ap (λ z. fed z (map as_started own)) backs_are ∙ ap (fed (backs_among queued)) streams_come in
        subst (λ z. Backs d end l z backed) whole (record { starts = moved; legal = legal_alone; are_backed = backs_start })
    | inr none ↦
        let is_none : length others ≡ 0 = omega (arith, none) in
        let nothing : [] ≡ fed (backs_among queued) (map (arrival_of_sent d) sents) =
        sym (given_none (backs_among queued) (map (arrival_of_sent d) sents) (ap length (sym backs_are) ∙ is_none)) in
        subst (λ z. Backs d end l z backed) nothing (record { starts = []; legal = nothing_starts rules end; are_backed = none_starts is_none })
  ]

-- the law
pub port_starts_the_background : PortListSends → PortStartsTheBackground
port_starts_the_background law d end l queued sents backed accepted is_link reported sends =
    starts_background law d end l queued sents backed accepted is_link reported sends
