-- What arrives at a port is exactly what is due there.
use Rattle.std.proofs.Common.{◌≡◌, ℕ, ◌+◌, ◌-◌, ◌*◌, ◌<◌, ◌≤◌, ◌⊎◌, Bool, true, false, cond, List, Some, sym, refl, ap, ap₂, ◌∙◌, inl, inr, arith, subst}
use Rattle.std.proofs.Common.{get_or, ◌/◌}
use Rattle.std.proofs.Math.Nat.{mul-le-mul_right}
use Rattle.std.specs.Prelude.{[], ◌∷◌, ◌++◌, ◌==◌, ◌≢◌, map, filter, slice_get, AllPairs, Contains}
use Rattle.std.specs.List.{enumerate_from, flat_map, list_any}
use Rattle.std.proofs.lemmas.Bool.{and_from, and_parts, cases_lt, eq-eqb, eqb-true}
use Rattle.std.proofs.lemmas.List.{map-append}
use Rattle.std.proofs.lemmas.List.Kept.{AllPairs-filter}
use Rattle.std.proofs.lemmas.Simd.{map-map}
use Rattle.std.proofs.lemmas.Option.{get_or_from_slice_get, same_Some, slice_get_within}
use Rattle.cqf_lists.specs.Lists.{each_below}
use Rattle.cqf_lists.proofs.EachBelow.{contains_below, contains_from_below, map_below, same_below}
use Rattle.cqf_lists.proofs.Filters.{filter-map}
use Rattle.cqf_lists.proofs.Made.{contains_if_there, if_contains, pairs_of_flat}
use Rattle.cqf_lists.proofs.Indices.{slice_get_front, slice_get_parts}
use Rattle.cqf_lists.proofs.Members.{any_member, contains_at, contains_flat, contains_from_flat, contains_one, member_any}
use Rattle.cqf_lists.proofs.Members.{contains_filter, contains_from_filter, contains_from_map, contains_here, contains_map, contains_none}
use Rattle.cqf_lists.proofs.Numbered.{StandsAt, enum_at, enum_pairs, enum_there, numbered_at, numbered_pairs, numbered_there}
use Rattle.cqf_lists.proofs.Pairs.{pairs_append, pairs_below, pairs_from_map, pairs_map, pairs_none, pairs_one}
use Rattle.cqf_lists.proofs.Pairs.{pairs_weaker}
use Rattle.cqf_units.proofs.Cycles.{cycle_from, cycle_is, cycle_upto}
use Rattle.std.proofs.lemmas.List.Elements.{Contains-append_cases, Contains-append_left, Contains-append_right}
use Rattle.cqf_units.specs.declared.timing.Nanos.{Nanos}
use Rattle.cqf_model.specs.declared.frames.Backed.{Backed}
use Rattle.cqf_model.specs.declared.frames.Background.{Background}
use Rattle.cqf_model.specs.declared.topology.Row.{Row}
use Rattle.cqf_model.specs.Domain.{Domain, bridge_of, cycle_of}
use Rattle.cqf_model.specs.Network.{QueuedFrame, backed_at, backed_frame, backed_in, comes_before, comes_in, is_backed_at, numbered_background, queued_by}
use Rattle.cqf_model.specs.Network.{queued_frame, queued_in, queued_to}
use Rattle.cqf_model.specs.StreamGate.{gate_class}
use Rattle.cqf_model.specs.Table.{goes_to, hop_number_after}
use Rattle.cqf_model.specs.Policing.{DroppedFor, ExceedsGate, LacksRow, Policed, Queued, Verdict, came_by, gate_list_after, police, police_all, policed_before}
use Rattle.cqf_model.proofs.Coming.{policed_front}
use Rattle.cqf_laws_cycle.proofs.GateLists.{gate_gives}
use Rattle.cqf_laws_cycle.specs.ArrivalLaws.{AreOfOneKind, CameToPort, ComesOfBackground, ComesThroughBridge, ComesToPort, IsOriginBefore}
use Rattle.cqf_laws_cycle.specs.ArrivalLaws.{OfBackground, OfBridge}
use Rattle.cqf_laws_cycle.specs.ArrivalLaws.{Origin, PortsGetWhatComes, StandsBefore, VerdictsAreOnWhatComes, came_at}
use Rattle.cqf_model.specs.Run.{Run}
use Rattle.cqf_model.specs.Policing.{Carried, Received, received_before}
use Rattle.cqf_laws_cycle.specs.ArrivalLaws.{Came, CameBefore}
use Rattle.cqf_laws_cycle.proofs.CameToBridge.{until, until_is, until_pairs}

-- there is one verdict on each frame
one_verdict : (d : Domain) (tables : List (List Row)) (bridge : ℕ) (earlier : List Policed) (xs : List Received) →
    map (λ (p : Policed). p.received) (police_all d tables bridge earlier xs) ≡ xs
one_verdict d tables bridge earlier [] = refl
one_verdict d tables bridge earlier (x ∷ xs) =
    ap (λ (ys : List Received). x ∷ ys) (one_verdict d tables bridge (earlier ++ police d tables bridge earlier x ∷ []) xs)

-- in the order of arrival
pub verdicts_are_on_what_comes : VerdictsAreOnWhatComes
verdicts_are_on_what_comes run carried bridge end = one_verdict run.domain run.tables bridge [] (received_before run carried bridge end)

-- so the verdicts are in order of instant
policed_pairs : (run : Run) (carried : Carried) (bridge end : ℕ) →
    AllPairs (λ (p q : Policed). p.received.at ≤ q.received.at) (policed_before run carried bridge end)
policed_pairs run carried bridge end =
    let R : Received → Received → Type 0 = λ x y. x.at ≤ y.at in
    let S : Came → Came → Type 0 = λ a b. a.received.at ≤ b.received.at in
    let came = until run carried bridge end in
    let by_came : AllPairs S came = pairs_weaker CameBefore S came (λ a b ca cb before. not_later a b before) (until_pairs run carried bridge end) in
    let by_received : AllPairs R (received_before run carried bridge end) =
    subst (λ (xs : List Received). AllPairs R xs) (until_is run carried bridge end) (pairs_map R (λ (c : Came). c.received) came by_came) in
    pairs_from_map R (λ (p : Policed). p.received) (policed_before run carried bridge end)
    (subst (λ (xs : List Received). AllPairs R xs) (sym (verdicts_are_on_what_comes run carried bridge end)) by_received)
  where
    -- a frame that is before another isn't later
    not_later : (a b : Came) → CameBefore a b → a.received.at ≤ b.received.at
    not_later a b before = elim before [ inl l ↦ omega (arith, l) | inr e ↦ omega (arith, e.0) ]

-- ---- a port

-- a background frame with its number
abbrev as_backed : ℕ × Background → Backed
as_backed e = record { frame = e.0; background = e.1 }

-- is at its number's position
backed_at_index : (background : List Background) (x : Backed) → Contains (numbered_background background) x →
    StandsAt (λ (y : Backed). y.frame) (λ (y : Backed). y.background) background x
backed_at_index background = numbered_at as_backed (λ (y : Backed). y.frame) (λ (y : Backed). y.background) (λ e. refl) (λ e. refl) background

-- why a frame is queued to a port
record IsQueuedFor (d : Domain) (l : ℕ) (x : Received) (verdict : Verdict) (q : QueuedFrame) : Type 0 where
  row : Row
  with_row : verdict ≡ Queued row
  by_link : Contains (goes_to row (came_by x.ingress)) l
  is : queued_frame d x row ≡ q

-- a queued frame is queued for such a reason
queued_for : (d : Domain) (l : ℕ) (x : Received) (verdict : Verdict) (q : QueuedFrame) → Contains (queued_by d l x verdict) q → IsQueuedFor d l x verdict q
queued_for d l x (Queued row) q c =
    let w = contains_if_there (list_any (λ next. next == l) (goes_to row (came_by x.ingress))) (queued_frame d x row ∷ []) q c in
    let m = any_member (λ next. next == l) (goes_to row (came_by x.ingress)) w.0 in
    record {
      row = row;
      with_row = refl;
      by_link = subst (λ (k : ℕ). Contains (goes_to row (came_by x.ingress)) k) (eqb-true m.0 l m.2) m.1;
      is = contains_one (queued_frame d x row) q w.1;
    }
queued_for d l x (DroppedFor reason) q c = absurd (contains_none q c)
queued_for d l x LacksRow q c = absurd (contains_none q c)
queued_for d l x ExceedsGate q c = absurd (contains_none q c)

-- and a frame that goes on by the link is queued
is_queued : (d : Domain) (l : ℕ) (x : Received) (verdict : Verdict) (row : Row) → verdict ≡ Queued row → Contains (goes_to row (came_by x.ingress)) l →
    Contains (queued_by d l x verdict) (queued_frame d x row)
is_queued d l x verdict row e c = subst (λ (v : Verdict). Contains (queued_by d l x v) (queued_frame d x row)) (sym e)
    (if_contains (list_any (λ next. next == l) (goes_to row (came_by x.ingress))) (queued_frame d x row ∷ []) (queued_frame d x row)
    (member_any (λ next. next == l) (goes_to row (came_by x.ingress)) l c (eq-eqb l l refl)) (contains_here (queued_frame d x row) []))

-- it is queued once
queued_pairs : {Y : Type 0} (R : Y → Y → Type 0) (make : QueuedFrame → Y) (d : Domain) (l : ℕ) (x : Received) (verdict : Verdict) →
    AllPairs R (map make (queued_by d l x verdict))
queued_pairs R make d l x (Queued row) = by_test (list_any (λ next. next == l) (goes_to row (came_by x.ingress)))
  where
    -- one frame or none has no pairs
    by_test : (b : Bool) → AllPairs R (map make (cond b (queued_frame d x row ∷ []) []))
    by_test true = pairs_one R (make (queued_frame d x row))
    by_test false = pairs_none R
queued_pairs R make d l x (DroppedFor reason) = pairs_none R
queued_pairs R make d l x LacksRow = pairs_none R
queued_pairs R make d l x ExceedsGate = pairs_none R

-- mapping the identity
map_itself : {X : Type 0} (xs : List X) → map (λ (x : X). x) xs ≡ xs
map_itself [] = refl
map_itself {X} (x ∷ xs) = ap (λ (ys : List X). x ∷ ys) (map_itself xs)

-- a later cycle is later
later_cycle : (n s t : ℕ) → 0 < n → s / n < t / n → s < t
later_cycle n s t some l =
    let next : s / n + 1 ≤ t / n = omega (arith, l) in
    omega (arith, mul-le-mul_right n next, cycle_upto n s some, cycle_from n t)

-- an instant before the end of n cycles is in one of them
of_cycles : (n cycles t : ℕ) → 0 < n → t < cycles * n → t / n < cycles
of_cycles n cycles t some l = elim (cases_lt (t / n) cycles) [
  | inl k ↦ k
  | inr g ↦ absurd (omega (arith, mul-le-mul_right n g, cycle_from n t, l))
]

-- each of n cycles ends no later than the last
cycle_within : (n cycles cycle : ℕ) → cycle < cycles → (cycle + 1) * n ≤ cycles * n
cycle_within n cycles cycle l = let next : cycle + 1 ≤ cycles = omega (arith, l) in mul-le-mul_right n next

-- background frames precede streams' frames
background_first : (a b : Origin) (s t i j : ℕ) → a ≡ OfBackground i → b ≡ OfBridge j → IsOriginBefore a s b t
background_first a b s t i j ea eb =
    subst (λ (o : Origin). IsOriginBefore o s b t) (sym ea) (subst (λ (o : Origin). IsOriginBefore (OfBackground i) s o t) (sym eb) tt)

-- background frames are ordered by instant and index
background_before : (a b : Origin) (s t i j : ℕ) → a ≡ OfBackground i → b ≡ OfBackground j → (s < t) ⊎ ((s ≡ t) × (i < j)) → IsOriginBefore a s b t
background_before a b s t i j ea eb h =
    subst (λ (o : Origin). IsOriginBefore o s b t) (sym ea) (subst (λ (o : Origin). IsOriginBefore (OfBackground i) s o t) (sym eb) h)

-- and streams' frames by index
bridge_before : (a b : Origin) (s t i j : ℕ) → a ≡ OfBridge i → b ≡ OfBridge j → i < j → IsOriginBefore a s b t
bridge_before a b s t i j ea eb h =
    subst (λ (o : Origin). IsOriginBefore o s b t) (sym ea) (subst (λ (o : Origin). IsOriginBefore (OfBridge i) s o t) (sym eb) h)

-- no origin precedes itself at one instant
no_origin_twice : (o : Origin) (s t : ℕ) → s ≡ t → IsOriginBefore o s o t → ⊥
no_origin_twice (OfBackground i) s t e h = elim h [ inl a ↦ omega (arith, a, e) | inr b ↦ omega (arith, b.1) ]
no_origin_twice (OfBridge i) s t e h = omega (arith, h)

module _ (run : Run) (carried : Carried) (l : ℕ) where
  -- a background frame, with its index
  abbrev backed_as : Backed → CameToPort
  backed_as x = record { origin = OfBackground (x.frame - 1); queued = backed_frame x }

  -- those of an instant
  abbrev backed_came : ℕ → List CameToPort
  backed_came t = map backed_as (filter (is_backed_at l t) (numbered_background run.background))

  -- those of a cycle
  abbrev backed_cycle : ℕ → List CameToPort
  backed_cycle cycle = each_below (λ offset. backed_came (cycle * run.domain.cycle_time + offset)) run.domain.cycle_time

  -- what is queued for a frame that the bridge received, with its index
  abbrev through : ℕ → QueuedFrame → CameToPort
  through index q = record { origin = OfBridge index; queued = q }

  -- what is queued for one policed frame
  abbrev gone : ℕ × Policed → List CameToPort
  gone e = map (through e.0) (queued_by run.domain l e.1.received e.1.verdict)

  -- all that the bridge received up to the end of a cycle
  abbrev policed_upto : ℕ → List Policed
  policed_upto cycle = policed_before run carried (bridge_of run.domain l) ((cycle + 1) * run.domain.cycle_time)

  -- whether a frame is of a cycle
  abbrev is_of : ℕ → CameToPort → Bool
  is_of cycle c = cycle_of run.domain c.queued.arrival.at.0 == cycle

  -- those of a cycle
  abbrev gone_in : ℕ → List CameToPort
  gone_in cycle = filter (is_of cycle) (flat_map gone (enumerate_from 0 (policed_upto cycle)))

  -- what arrives at the port in a cycle
  abbrev in_cycle : ℕ → List CameToPort
  in_cycle cycle = backed_cycle cycle ++ gone_in cycle

  -- and in the first cycles
  abbrev upto : ℕ → List CameToPort
  upto cycles = each_below in_cycle cycles

  -- the frame
  abbrev frame_of : CameToPort → QueuedFrame
  frame_of c = c.queued

  -- without the indices these are the background frames that arrive at the port
  backed_is : (cycle : ℕ) → map frame_of (backed_cycle cycle) ≡ backed_in run.domain run.background l cycle
  backed_is cycle =
      let first = cycle * run.domain.cycle_time in
      map_below frame_of (λ offset. backed_came (first + offset)) run.domain.cycle_time
      ∙ same_below (λ offset. map frame_of (backed_came (first + offset))) (λ offset. backed_at run.background l (first + offset)) run.domain.cycle_time
      (λ offset k. map-map frame_of backed_as (filter (is_backed_at l (first + offset)) (numbered_background run.background)))

  -- and the streams' frames that do
  gone_is : (n : ℕ) (policed : List Policed) → map frame_of (flat_map gone (enumerate_from n policed)) ≡ queued_to run.domain l policed
  gone_is n [] = refl
  gone_is n (p ∷ policed) =
      let queued = queued_by run.domain l p.received p.verdict in
      map-append frame_of (map (through n) queued) (flat_map gone (enumerate_from (n + 1) policed))
      ∙ ap₂ (λ (xs ys : List QueuedFrame). xs ++ ys) (map-map frame_of (through n) queued ∙ map_itself queued) (gone_is (n + 1) policed)

  -- those of a cycle
  gone_in_is : (cycle : ℕ) → map frame_of (gone_in cycle) ≡ queued_in run carried l cycle
  gone_in_is cycle =
      let all = flat_map gone (enumerate_from 0 (policed_upto cycle)) in
      let of_cycle : QueuedFrame → Bool = λ q. cycle_of run.domain q.arrival.at.0 == cycle in
      sym (filter-map frame_of of_cycle all) ∙ ap (filter of_cycle) (gone_is 0 (policed_upto cycle))

  -- all of a cycle
  cycle_is_all : (cycle : ℕ) → map frame_of (in_cycle cycle) ≡ comes_in run carried l cycle
  cycle_is_all cycle =
      map-append frame_of (backed_cycle cycle) (gone_in cycle) ∙ ap₂ (λ (xs ys : List QueuedFrame). xs ++ ys) (backed_is cycle) (gone_in_is cycle)

  -- and of the first cycles
  upto_is : (cycles : ℕ) → map frame_of (upto cycles) ≡ comes_before run carried l cycles
  upto_is cycles =
      map_below frame_of in_cycle cycles
      ∙ same_below (λ cycle. map frame_of (in_cycle cycle)) (comes_in run carried l) cycles (λ cycle k. cycle_is_all cycle)

  -- a background frame of the port's link at an instant
  record IsBackedCame (t : ℕ) (c : CameToPort) : Type 0 where
    index : ℕ
    is : c.origin ≡ OfBackground index
    comes : ComesOfBackground run l index c.queued
    instant : came_at c ≡ t

  -- a background frame in the list is such
  from_backed : (t : ℕ) (c : CameToPort) → Contains (backed_came t) c → IsBackedCame t c
  from_backed t c h =
      let all = numbered_background run.background in
      let e = contains_from_map backed_as (filter (is_backed_at l t) all) c h in
      let f = contains_from_filter (is_backed_at l t) all e.0 e.1 in
      let g = and_parts (e.0.background.link == l) (e.0.background.at.0 == t) f.1 in
      let n = backed_at_index run.background e.0 f.0 in
      let index : e.0.frame - 1 ≡ n.index = omega (arith, n.numbered) in
      subst (λ (x : CameToPort). IsBackedCame t x) e.2 (record {
        index = e.0.frame - 1;
        is = refl;
        comes = record {
          background = e.0.background;
          is_there = ap (λ (k : ℕ). slice_get run.background k) index ∙ n.is_there;
          on_link = eqb-true e.0.background.link l g.0;
          instant = refl;
          class = refl;
          octets = refl;
          frame = omega (arith, n.numbered);
          of_no_stream = refl;
        };
        instant = eqb-true e.0.background.at.0 t g.1;
      })

  -- a background frame in a cycle
  record IsBackedIn (cycle : ℕ) (c : CameToPort) : Type 0 where
    index : ℕ
    is : c.origin ≡ OfBackground index
    comes : ComesOfBackground run l index c.queued
    from : cycle * run.domain.cycle_time ≤ came_at c
    before : came_at c < cycle * run.domain.cycle_time + run.domain.cycle_time

  -- those of a cycle are such
  from_backed_in : (cycle : ℕ) (c : CameToPort) → Contains (backed_cycle cycle) c → IsBackedIn cycle c
  from_backed_in cycle c h =
      let first = cycle * run.domain.cycle_time in
      let w = contains_from_below (λ offset. backed_came (first + offset)) run.domain.cycle_time c h in
      let b = from_backed (first + w.0) c w.2 in
      record { index = b.index; is = b.is; comes = b.comes; from = omega (arith, b.instant); before = omega (arith, b.instant, w.1) }

  -- a frame that went on in a cycle, by its index among those that the bridge received up to the end of the cycle
  record IsGoneIn (cycle : ℕ) (c : CameToPort) : Type 0 where
    index : ℕ
    policed : Policed
    is : c.origin ≡ OfBridge index
    received : slice_get (policed_upto cycle) index ≡ Some policed
    queued : IsQueuedFor run.domain l policed.received policed.verdict c.queued
    of_cycle : cycle_of run.domain (came_at c) ≡ cycle

  -- a frame that went on has its index
  from_gone : (cycle : ℕ) (c : CameToPort) → Contains (gone_in cycle) c → IsGoneIn cycle c
  from_gone cycle c h =
      let all = enumerate_from 0 (policed_upto cycle) in
      let f = contains_from_filter (is_of cycle) (flat_map gone all) c h in
      let w = contains_from_flat gone all c f.0 in
      let m = contains_from_map (through w.0.0) (queued_by run.domain l w.0.1.received w.0.1.verdict) c w.2 in
      let a = enum_at 0 (policed_upto cycle) w.0 w.1 in
      let index : w.0.0 ≡ a.0 = omega (arith, a.1) in
      record {
        index = w.0.0;
        policed = w.0.1;
        is = sym (ap (λ (x : CameToPort). x.origin) m.2);
        received = ap (λ (k : ℕ). slice_get (policed_upto cycle) k) index ∙ a.2;
        queued = subst (λ (q : QueuedFrame). IsQueuedFor run.domain l w.0.1.received w.0.1.verdict q) (ap (λ (x : CameToPort). x.queued) m.2)
            (queued_for run.domain l w.0.1.received w.0.1.verdict m.0 m.1);
        of_cycle = eqb-true (cycle_of run.domain (came_at c)) cycle f.1;
      }

  module _ (some : 0 < run.domain.cycle_time) (cycles : ℕ) where
    -- an index among those up to the end of a cycle is the same among all
    in_all : (cycle index : ℕ) (policed : Policed) → cycle < cycles → slice_get (policed_upto cycle) index ≡ Some policed →
        slice_get (policed_before run carried (bridge_of run.domain l) (cycles * run.domain.cycle_time)) index ≡ Some policed
    in_all cycle index policed inside e =
        let time = run.domain.cycle_time in
        let f = policed_front run carried (bridge_of run.domain l) ((cycle + 1) * time) (cycles * time) (cycle_within time cycles cycle inside) in
        ap (λ (ps : List Policed). slice_get ps index) f.is
        ∙ slice_get_front (policed_upto cycle) f.rest index (slice_get_within (policed_upto cycle) index policed e) ∙ e

    -- and conversely, if the frame arrives by then
    in_front : (cycle index : ℕ) (policed : Policed) → cycle < cycles → policed.received.at < (cycle + 1) * run.domain.cycle_time →
        slice_get (policed_before run carried (bridge_of run.domain l) (cycles * run.domain.cycle_time)) index ≡ Some policed →
        slice_get (policed_upto cycle) index ≡ Some policed
    in_front cycle index policed inside early e =
        let time = run.domain.cycle_time in
        let f = policed_front run carried (bridge_of run.domain l) ((cycle + 1) * time) (cycles * time) (cycle_within time cycles cycle inside) in
        let there : slice_get (policed_upto cycle ++ f.rest) index ≡ Some policed = sym (ap (λ (ps : List Policed). slice_get ps index) f.is) ∙ e in
        elim (slice_get_parts (policed_upto cycle) f.rest index policed there) [
          | inl h ↦ h
          | inr h ↦ absurd (omega (arith, (f.late policed (contains_at f.rest h.0 policed h.2)).0, early))
        ]

    -- a frame that went on comes through the bridge
    comes_through : (cycle : ℕ) (c : CameToPort) → cycle < cycles → (g : IsGoneIn cycle c) →
        ComesThroughBridge run carried l (cycles * run.domain.cycle_time) g.index c.queued
    comes_through cycle c inside g =
        let x = g.policed.received in
        let row = g.queued.row in
        record {
          policed = g.policed;
          is_received = in_all cycle g.index g.policed inside g.received;
          row = row;
          with_row = g.queued.with_row;
          by_link = g.queued.by_link;
          instant = sym (ap (λ (q : QueuedFrame). q.arrival.at.0) g.queued.is);
          class = sym (ap (λ (q : QueuedFrame). q.arrival.class) g.queued.is) ∙ gate_gives run.domain.cycle_time row.octets row.pace (hop_number_after row (came_by x.ingress)) x.at some;
          octets = sym (ap (λ (q : QueuedFrame). q.arrival.octets) g.queued.is);
          frame = sym (ap (λ (q : QueuedFrame). q.arrival.frame) g.queued.is);
          of_stream = sym (ap (λ (q : QueuedFrame). q.stream) g.queued.is);
        }

    -- so each frame in a cycle's list arrives from its origin, early enough
    from_cycle : (cycle : ℕ) (c : CameToPort) → cycle < cycles → Contains (in_cycle cycle) c →
        ComesToPort run carried l (cycles * run.domain.cycle_time) c.origin c.queued × (cycle_of run.domain (came_at c) ≡ cycle)
    from_cycle cycle c inside h =
        let end = cycles * run.domain.cycle_time in
        elim (Contains-append_cases (backed_cycle cycle) (gone_in cycle) c h) [
          | inl k ↦ (let b = from_backed_in cycle c k in (
            subst (λ (o : Origin). ComesToPort run carried l end o c.queued) (sym b.is) b.comes,
            cycle_is run.domain.cycle_time cycle (came_at c) b.from b.before,
          ))
          | inr k ↦ (let g = from_gone cycle c k in (
            subst (λ (o : Origin). ComesToPort run carried l end o c.queued) (sym g.is) (comes_through cycle c inside g),
            g.of_cycle,
          ))
        ]

    -- and in the list of the first cycles
    from_upto : (c : CameToPort) → Contains (upto cycles) c →
        ComesToPort run carried l (cycles * run.domain.cycle_time) c.origin c.queued × (came_at c < cycles * run.domain.cycle_time)
    from_upto c h =
        let time = run.domain.cycle_time in
        let w = contains_from_below in_cycle cycles c h in
        let r = from_cycle w.0 c w.1 w.2 in
        let whole : cycle_of run.domain (came_at c) * time ≡ w.0 * time = ap (λ (k : ℕ). k * time) r.1 in
        (r.0, omega (arith, cycle_upto time (came_at c) some, whole, cycle_within time cycles w.0 w.1))

    -- and each such frame is in the list
    to_background : (index : ℕ) (q : QueuedFrame) → ComesOfBackground run l index q → q.arrival.at.0 < cycles * run.domain.cycle_time →
        Contains (backed_cycle (cycle_of run.domain q.arrival.at.0)) (record { origin = OfBackground index; queued = q })
    to_background index q b early =
        let time = run.domain.cycle_time in
        let t = q.arrival.at.0 in
        let first = cycle_of run.domain t * time in
        let offset = t - first in
        let from = cycle_from time t in
        let there_then : first + offset ≡ t = omega (arith, from) in
        let mine = is_backed_at l (first + offset) in
        let all = numbered_background run.background in
        let there = numbered_there as_backed run.background index b.background b.is_there in
        let x : Backed = record { frame = index + 1; background = b.background } in
        let when : b.background.at.0 ≡ first + offset = sym (ap (λ (a : Nanos). a.0) b.instant) ∙ sym there_then in
        let kept = contains_filter mine all x there
        (and_from (b.background.link == l) (b.background.at.0 == first + offset)
        (eq-eqb b.background.link l b.on_link) (eq-eqb b.background.at.0 (first + offset) when)) in
        let back : index + 1 - 1 ≡ index = omega arith in
        let same : backed_as x ≡ record { origin = OfBackground index; queued = q } =
        λ i. record {
          origin = OfBackground (back i);
          queued = record {
            arrival = record { at = sym b.instant i; class = sym b.class i; octets = sym b.octets i; frame = sym b.frame i };
            stream = sym b.of_no_stream i;
          };
        } in
        contains_below (λ k. backed_came (first + k)) time offset (record { origin = OfBackground index; queued = q })
        (omega (arith, cycle_upto time t some, from))
        (subst (λ (y : CameToPort). Contains (backed_came (first + offset)) y) same (contains_map backed_as (filter mine all) x kept))

    -- a frame that comes through the bridge is among those of its cycle
    to_gone : (index : ℕ) (q : QueuedFrame) → ComesThroughBridge run carried l (cycles * run.domain.cycle_time) index q →
        q.arrival.at.0 < cycles * run.domain.cycle_time →
        Contains (gone_in (cycle_of run.domain q.arrival.at.0)) (record { origin = OfBridge index; queued = q })
    to_gone index q g early =
        let time = run.domain.cycle_time in
        let t = q.arrival.at.0 in
        let x = g.policed.received in
        let cycle = cycle_of run.domain t in
        let next : (cycle + 1) * time ≡ cycle * time + time = omega arith in
        let received = in_front cycle index g.policed (of_cycles time cycles t some early)
        (omega (arith, cycle_upto time t some, g.instant, next)) g.is_received in
        let all = enumerate_from 0 (policed_upto cycle) in
        let there = enum_there 0 index index (policed_upto cycle) g.policed (omega arith) received in
        let class : gate_class (gate_list_after run.domain g.row (came_by x.ingress)) x.at ≡ q.arrival.class =
        gate_gives time g.row.octets g.row.pace (hop_number_after g.row (came_by x.ingress)) x.at some ∙ sym g.class in
        let same : queued_frame run.domain x g.row ≡ q =
        λ i. record {
          arrival = record { at = record { 0 = sym g.instant i }; class = class i; octets = sym g.octets i; frame = sym g.frame i };
          stream = sym g.of_stream i;
        } in
        let queued = subst (λ (y : QueuedFrame). Contains (queued_by run.domain l x g.policed.verdict) y) same
        (is_queued run.domain l x g.policed.verdict g.row g.with_row g.by_link) in
        let made = contains_map (through index) (queued_by run.domain l x g.policed.verdict) q queued in
        contains_filter (is_of cycle) (flat_map gone all) (through index q) (contains_flat gone all (index, g.policed) (through index q) there made)
        (eq-eqb cycle cycle refl)

    -- so each is among those of the first cycles
    to_upto : (origin : Origin) (q : QueuedFrame) → ComesToPort run carried l (cycles * run.domain.cycle_time) origin q →
        q.arrival.at.0 < cycles * run.domain.cycle_time → Contains (upto cycles) (record { origin = origin; queued = q })
    to_upto (OfBackground index) q b early =
        let c : CameToPort = record { origin = OfBackground index; queued = q } in
        let cycle = cycle_of run.domain q.arrival.at.0 in
        contains_below in_cycle cycles cycle c (of_cycles run.domain.cycle_time cycles q.arrival.at.0 some early)
        (Contains-append_left (backed_cycle cycle) (gone_in cycle) c (to_background index q b early))
    to_upto (OfBridge index) q g early =
        let c : CameToPort = record { origin = OfBridge index; queued = q } in
        let cycle = cycle_of run.domain q.arrival.at.0 in
        contains_below in_cycle cycles cycle c (of_cycles run.domain.cycle_time cycles q.arrival.at.0 some early)
        (Contains-append_right (backed_cycle cycle) (gone_in cycle) c (to_gone index q g early))

    -- ---- in order

    -- the background frames of a cycle are in order
    backed_in_order : (cycle : ℕ) → AllPairs (StandsBefore run.domain) (backed_cycle cycle)
    backed_in_order cycle =
        let time = run.domain.cycle_time in
        let first = cycle * time in
        let all = numbered_background run.background in
        let R : Backed → Backed → Type 0 = λ a b. a.frame < b.frame in
        let S : Backed → Backed → Type 0 = λ a b. StandsBefore run.domain (backed_as a) (backed_as b) in
        let of_cycle : (offset t : ℕ) → offset < time → t ≡ first + offset → cycle_of run.domain t ≡ cycle =
        λ offset t k e. cycle_is time cycle t (omega (arith, e)) (omega (arith, e, k)) in
        pairs_below (StandsBefore run.domain) (λ offset. backed_came (first + offset)) time
        (λ offset k.
        let mine = is_backed_at l (first + offset) in
        pairs_map (StandsBefore run.domain) backed_as (filter mine all)
        (pairs_weaker R S (filter mine all) (λ a b ca cb less.
        let x = contains_from_filter mine all a ca in
        let y = contains_from_filter mine all b cb in
        let n = backed_at_index run.background a x.0 in
        let s = eqb-true a.background.at.0 (first + offset) (and_parts (a.background.link == l) (a.background.at.0 == first + offset) x.1).1 in
        let t = eqb-true b.background.at.0 (first + offset) (and_parts (b.background.link == l) (b.background.at.0 == first + offset) y.1).1 in
        inr (of_cycle offset a.background.at.0 k s ∙ sym (of_cycle offset b.background.at.0 k t), inr (s ∙ sym t, omega (arith, less, n.numbered))))
        (AllPairs-filter R mine all
        (numbered_pairs as_backed (λ (y : Backed). y.frame) (λ (y : Backed). y.background) (λ e. refl) (λ e. refl) run.background))))
        (λ j k x y less inside cx cy.
        let a = from_backed (first + j) x cx in
        let b = from_backed (first + k) y cy in
        inr (
          of_cycle j (came_at x) (omega (arith, less, inside)) a.instant ∙ sym (of_cycle k (came_at y) inside b.instant),
          background_before x.origin y.origin (came_at x) (came_at y) a.index b.index a.is b.is (inl (omega (arith, a.instant, b.instant, less))),
        ))

    -- the streams' frames of a cycle are
    gone_in_order : (cycle : ℕ) → AllPairs (StandsBefore run.domain) (gone_in cycle)
    gone_in_order cycle =
        let all = enumerate_from 0 (policed_upto cycle) in
        let R : CameToPort → CameToPort → Type 0 = λ a b. IsOriginBefore a.origin (came_at a) b.origin (came_at b) in
        let S : ℕ × Policed → ℕ × Policed → Type 0 = λ a b. a.0 < b.0 in
        let origin : (e : ℕ × Policed) (c : CameToPort) → Contains (gone e) c → c.origin ≡ OfBridge e.0 =
        λ e c h. sym (ap (λ (x : CameToPort). x.origin) (contains_from_map (through e.0) (queued_by run.domain l e.1.received e.1.verdict) c h).2) in
        pairs_weaker R (StandsBefore run.domain) (gone_in cycle) (λ a b ca cb r.
        inr ((from_gone cycle a ca).of_cycle ∙ sym (from_gone cycle b cb).of_cycle, r))
        (AllPairs-filter R (is_of cycle) (flat_map gone all)
        (pairs_of_flat gone S R all (λ e c. queued_pairs R (through e.0) run.domain l e.1.received e.1.verdict)
        (λ e f u v ce cf less cu cv. bridge_before u.origin v.origin (came_at u) (came_at v) e.0 f.0 (origin e u cu) (origin f v cv) less)
        (enum_pairs 0 (policed_upto cycle))))

    -- all of a cycle are
    cycle_in_order : (cycle : ℕ) → AllPairs (StandsBefore run.domain) (in_cycle cycle)
    cycle_in_order cycle =
        pairs_append (StandsBefore run.domain) (backed_cycle cycle) (gone_in cycle) (backed_in_order cycle) (gone_in_order cycle) (λ x y cx cy.
        let a = from_backed_in cycle x cx in
        let b = from_gone cycle y cy in
        inr (
          cycle_is run.domain.cycle_time cycle (came_at x) a.from a.before ∙ sym b.of_cycle,
          background_first x.origin y.origin (came_at x) (came_at y) a.index b.index a.is b.is,
        ))

    -- and those of the first cycles are
    upto_in_order : AllPairs (StandsBefore run.domain) (upto cycles)
    upto_in_order =
        pairs_below (StandsBefore run.domain) in_cycle cycles (λ cycle k. cycle_in_order cycle) (λ j k x y less inside cx cy.
        let a = (from_cycle j x (omega (arith, less, inside)) cx).1 in
        let b = (from_cycle k y inside cy).1 in
        inl (omega (arith, a, b, less)))

    -- an origin has one frame
    one_of_origin : (origin : Origin) (q r : QueuedFrame) → ComesToPort run carried l (cycles * run.domain.cycle_time) origin q →
        ComesToPort run carried l (cycles * run.domain.cycle_time) origin r → q.arrival.at.0 ≡ r.arrival.at.0
    one_of_origin (OfBackground index) q r a b =
        let same : a.background ≡ b.background = same_Some a.background b.background (sym a.is_there ∙ b.is_there) in
        ap (λ (t : Nanos). t.0) (a.instant ∙ ap (λ (x : Background). x.at) same ∙ sym b.instant)
    one_of_origin (OfBridge index) q r a b =
        let same : a.policed ≡ b.policed = same_Some a.policed b.policed (sym a.is_received ∙ b.is_received) in
        a.instant ∙ ap (λ (p : Policed). p.received.at) same ∙ sym b.instant

    -- so no origin occurs twice
    upto_once : AllPairs (λ (a b : CameToPort). a.origin ≢ b.origin) (upto cycles)
    upto_once =
        pairs_weaker (StandsBefore run.domain) (λ (a b : CameToPort). a.origin ≢ b.origin) (upto cycles) (λ a b ca cb before same.
        let end = cycles * run.domain.cycle_time in
        let x = (from_upto a ca).0 in
        let y = subst (λ (o : Origin). ComesToPort run carried l end o b.queued) (sym same) (from_upto b cb).0 in
        let at : came_at a ≡ came_at b = one_of_origin a.origin a.queued b.queued x y in
        elim before [
          | inl less ↦ omega (arith, less, ap (cycle_of run.domain) at)
          | inr e ↦ no_origin_twice a.origin (came_at a) (came_at b) at
              (subst (λ (o : Origin). IsOriginBefore a.origin (came_at a) o (came_at b)) (sym same) e.1)
        ]) upto_in_order

    -- frames of one kind are ordered by instant
    not_later_at : (a b : Origin) (q r : QueuedFrame) → ComesToPort run carried l (cycles * run.domain.cycle_time) a q →
        ComesToPort run carried l (cycles * run.domain.cycle_time) b r → IsOriginBefore a q.arrival.at.0 b r.arrival.at.0 → AreOfOneKind a b →
        q.arrival.at.0 ≤ r.arrival.at.0
    not_later_at (OfBackground i) (OfBackground j) q r x y before kind = elim before [ inl less ↦ omega (arith, less) | inr e ↦ omega (arith, e.0) ]
    not_later_at (OfBackground i) (OfBridge j) q r x y before kind = absurd kind
    not_later_at (OfBridge i) (OfBackground j) q r x y before kind = absurd kind
    not_later_at (OfBridge i) (OfBridge j) q r x y before kind =
        let policed = policed_before run carried (bridge_of run.domain l) (cycles * run.domain.cycle_time) in
        let inside = slice_get_within policed j y.policed y.is_received in
        let le = policed_pairs run carried (bridge_of run.domain l) (cycles * run.domain.cycle_time) i j y.policed before inside in
        let first : get_or policed i y.policed ≡ x.policed = get_or_from_slice_get policed i x.policed y.policed x.is_received in
        let second : get_or policed j y.policed ≡ y.policed = get_or_from_slice_get policed j y.policed y.policed y.is_received in
        omega (arith, le, ap (λ (p : Policed). p.received.at) first, ap (λ (p : Policed). p.received.at) second, x.instant, y.instant)

    -- so all frames of one kind are
    upto_by_instant : AllPairs (λ (a b : CameToPort). AreOfOneKind a.origin b.origin → came_at a ≤ came_at b) (upto cycles)
    upto_by_instant =
        pairs_weaker (StandsBefore run.domain) (λ (a b : CameToPort). AreOfOneKind a.origin b.origin → came_at a ≤ came_at b) (upto cycles)
        (λ a b ca cb before kind. elim before [
          | inl less ↦ omega (arith, later_cycle run.domain.cycle_time (came_at a) (came_at b) some less)
          | inr e ↦ not_later_at a.origin b.origin a.queued b.queued (from_upto a ca).0 (from_upto b cb).0 e.1 kind
        ]) upto_in_order

-- what arrives at a port is exactly what is due there
pub ports_get_what_comes : PortsGetWhatComes
ports_get_what_comes run carried l cycles some = record {
  came = upto run carried l cycles;
  are = sym (upto_is run carried l cycles);
  no_others = from_upto run carried l some cycles;
  all = to_upto run carried l some cycles;
  once = upto_once run carried l some cycles;
  in_order = upto_in_order run carried l some cycles;
  by_instant = upto_by_instant run carried l some cycles;
}
