-- Relays to which a segment is given.
use Rattle.std.proofs.Common.{◌≡◌, ◌≢◌, ◌∙◌, ℕ, ◌+◌, ◌-◌, ◌<◌, ◌≤◌, ◌==◌, ◌&&◌, if◌then◌else◌, Bool, true, false}
use Rattle.std.proofs.Common.{List, [], ◌++◌, Some, All, AllPairs, Contains, filter, get_or, length, map, set}
use Rattle.std.proofs.Common.{refl, sym, ap, subst, inl, inr, arith, append-nil, get_or-set_other, get_or-set_same, eq-eqb, ne_eqb}
use Rattle.std.proofs.Common.{length-append, length-set}
use Rattle.std.specs.Prelude.{Err, Ok, OnOk, Result, slice_get}
use Rattle.std.specs.Arc.{arc_value}
use Rattle.std.specs.Global.{Global}
use Rattle.std.specs.List.Sorted.{IsNonDecreasingBy, IsPermutation}
use Rattle.std.specs.declared.vec.Vec.{Vec}
use Rattle.std.proofs.lemmas.Bool.{cases_eq, cases_lt, cases_order, cond-false, cond-true}
use Rattle.std.proofs.lemmas.List.{get_or-append_right, get_or-map, get_or_append_left, length-map}
use Rattle.std.proofs.lemmas.List.Elements.{All-append, All-contains, All-weaker, Contains-get_or, filter-append}
use Rattle.std.proofs.lemmas.Option.{get_or_from_slice_get, same_Some, slice_get-get_or, slice_get_within}
use Rattle.cqf_lists.proofs.EachBelow.{filter_none, same_below}
use Rattle.cqf_lists.proofs.Numbers.{numbers_ascend}
use Rattle.cqf_model.specs.declared.frames.Sent.{Sent}
use Rattle.cqf_model.specs.declared.topology.Row.{Row}
use Rattle.cqf_model.specs.Domain.{Domain, enters}
use Rattle.cqf_relay.specs.declared.edge.Edge.{Edge}
use Rattle.cqf_relay.specs.declared.inlet.Inlet.{Inlet}
use Rattle.cqf_relay.specs.declared.leads.By.TheVariants as ingress
use Rattle.cqf_relay.specs.declared.log.ArrivedFrame.{ArrivedFrame}
use Rattle.cqf_relay.specs.declared.moving.Segment.{Segment}
use Rattle.cqf_relay.specs.declared.outlet.Outlet.{Outlet}
use Rattle.cqf_relay.specs.declared.queue.Queued.{Queued}
use Rattle.cqf_relay.specs.declared.relay.Relay.{Relay}
use Rattle.cqf_relay.specs.Segments.{IsNextSegment, Sendings, batch_at, frames_of}
use Rattle.cqf_relay.specs.Leading.{leads}
use Rattle.cqf_relay.specs.Logs.{cycle_of_came, is_in}
use Rattle.cqf_relay.specs.Offering.{came_of_going}
use Rattle.cqf_relay.specs.Sending.{IsTidy}
use Rattle.cqf_relay.specs.Standing.{AreKnown, Come, GoesOnBy, IsEdgeOf, IsInletOf, IsOutletOf, IsWithin}
use Rattle.cqf_agenda.specs.Links.{links_from, links_into}
use Rattle.cqf_relay.specs.Standing.{MayHaveCome, StandsSo, TakesSegment, comes_by, comes_to, covered_in, link_in, link_out}
use Rattle.cqf_relay.specs.Standing.{more_from, rows_of, that_go_on, upto_from, wire_out, with_segment}
use Rattle.cqf_lists.proofs.Written.{map_kept}
use Rattle.cqf_relay.proofs.Handing.{all_at}

-- ---- lists whose numbers ascend

-- a non-decreasing list, appended to another with no larger numbers
pub rising_append : {X : Type 0} (n : X → ℕ) (xs ys : List X) → IsNonDecreasingBy n xs → IsNonDecreasingBy n ys →
    ((x y : X) → Contains xs x → Contains ys y → n x ≤ n y) → IsNonDecreasingBy n (xs ++ ys)
rising_append n xs ys first second across i j d le inside = elim (cases_lt j (length xs)) [
  | inl j_in ↦
      let at_i : get_or (xs ++ ys) i d ≡ get_or xs i d = get_or_append_left xs ys d i (omega (arith, le, j_in)) in
      let at_j : get_or (xs ++ ys) j d ≡ get_or xs j d = get_or_append_left xs ys d j j_in in
      let up : n (get_or xs i d) ≤ n (get_or xs j d) = first i j d le j_in in
      omega (arith, ap n at_i, ap n at_j, up)
  | inr j_out ↦
      let at_j : get_or (xs ++ ys) j d ≡ get_or ys (j - length xs) d = get_or-append_right xs ys (length xs) j d refl j_out in
      let below : j - length xs < length ys = omega (arith, j_out, inside, length-append xs ys) in
      elim (cases_lt i (length xs)) [
        | inl i_in ↦
            let at_i : get_or (xs ++ ys) i d ≡ get_or xs i d = get_or_append_left xs ys d i i_in in
            let up : n (get_or xs i d) ≤ n (get_or ys (j - length xs) d) =
            across (get_or xs i d) (get_or ys (j - length xs) d) (Contains-get_or xs i d i_in) (Contains-get_or ys (j - length xs) d below) in
            omega (arith, ap n at_i, ap n at_j, up)
        | inr i_out ↦
            let at_i : get_or (xs ++ ys) i d ≡ get_or ys (i - length xs) d = get_or-append_right xs ys (length xs) i d refl i_out in
            let up : n (get_or ys (i - length xs) d) ≤ n (get_or ys (j - length xs) d) =
            second (i - length xs) (j - length xs) d (omega (arith, le, i_out)) below in
            omega (arith, ap n at_i, ap n at_j, up)
      ]
]

-- elements at two indices have two numbers if the numbers ascend
pub apart_at : {X : Type 0} (f : X → ℕ) (xs : List X) (i j : ℕ) (x y : X) → AllPairs (λ (a b : ℕ). a < b) (map f xs) → i ≢ j →
    slice_get xs i ≡ Some x → slice_get xs j ≡ Some y → f x ≢ f y
apart_at {X} f xs i j x y ascend differ at_i at_j same = elim (cases_order i j) [
  | inl e ↦ differ e
  | inr o ↦ elim o [
    | inl less ↦ omega (arith, same, number_at i x at_i, number_at j y at_j, ascend i j 0 less (within j y at_j))
    | inr more ↦ omega (arith, same, number_at i x at_i, number_at j y at_j, ascend j i 0 more (within i x at_i))
  ]
]
  where
    -- the number of an element is at its index
    number_at : (k : ℕ) (z : X) → slice_get xs k ≡ Some z → get_or (map f xs) k 0 ≡ f z
    number_at k z at = get_or-map f xs k z 0 (slice_get_within xs k z at) ∙ ap f (get_or_from_slice_get xs k z z at)

    -- and it is inside
    within : (k : ℕ) (z : X) → slice_get xs k ≡ Some z → k < length (map f xs)
    within k z at = omega (arith, slice_get_within xs k z at, length-map xs f)

-- ---- what has arrived, and what of it goes on

-- a segment by a link is appended to what has arrived by that link
own_more : (brought : ℕ → List ArrivedFrame) (m : ℕ) (more : List ArrivedFrame) → more_from brought m more m ≡ brought m ++ more
own_more brought m more = cond-true (m == m) (brought m ++ more) (brought m) (eq-eqb m m refl)

-- and what has arrived by another link stays
other_more : (brought : ℕ → List ArrivedFrame) (m : ℕ) (more : List ArrivedFrame) (k : ℕ) → k ≢ m → more_from brought m more k ≡ brought k
other_more brought m more k apart = cond-false (k == m) (brought k ++ more) (brought k) (ne_eqb k m apart)

-- the link has brought the cycles up to the segment's end
own_upto : (upto : ℕ → ℕ) (m later : ℕ) → upto_from upto m later m ≡ later
own_upto upto m later = cond-true (m == m) later (upto m) (eq-eqb m m refl)

-- and the bound of another link stays
other_upto : (upto : ℕ → ℕ) (m later k : ℕ) → k ≢ m → upto_from upto m later k ≡ upto k
other_upto upto m later k apart = cond-false (k == m) later (upto k) (ne_eqb k m apart)

-- what may have arrived, with equal bounds and lists
may_same : (upto later : ℕ) (xs ys : List ArrivedFrame) → later ≡ upto → ys ≡ xs → MayHaveCome upto xs → MayHaveCome later ys
may_same upto later xs ys bound same may =
    subst (λ (n : ℕ). MayHaveCome n ys) (sym bound) (subst (λ (zs : List ArrivedFrame). MayHaveCome upto zs) (sym same) may)

-- what has arrived, followed by a segment that may come next, may have arrived
pub more_may_come : (begin : ℕ) (segment : Segment) (brought : List ArrivedFrame) → IsNextSegment begin segment → MayHaveCome begin brought →
    MayHaveCome segment.upto (brought ++ frames_of segment)
more_may_come begin segment brought next may =
    let InSegment = λ (came : ArrivedFrame). (begin ≤ came.cycle) × (came.cycle < segment.upto) in
    record {
      by_cycle = rising_append cycle_of_came brought (frames_of segment) may.by_cycle next.by_cycle
          (λ early late held here.
          across early.cycle late.cycle (All-contains (λ (came : ArrivedFrame). came.cycle < begin) brought early may.within held)
          (All-contains InSegment (frames_of segment) late next.within here).0);
      within = All-append (λ (came : ArrivedFrame). came.cycle < segment.upto) brought (frames_of segment)
          (All-weaker (λ (came : ArrivedFrame). came.cycle < begin) (λ (came : ArrivedFrame). came.cycle < segment.upto) (λ came soon. below soon) brought may.within)
          (All-weaker InSegment (λ (came : ArrivedFrame). came.cycle < segment.upto) (λ came both. both.1) (frames_of segment) next.within);
    }
  where
    -- a cycle before the segment's is not later than one of these
    across : (early late : ℕ) → early < begin → begin ≤ late → early ≤ late
    across early late before from = omega (arith, before, from)

    -- and before its end
    below : {cycle : ℕ} → cycle < begin → cycle < segment.upto
    below soon = omega (arith, soon, next.following)

-- a segment that comes next has nothing of earlier cycles
pub none_before : (begin cycle : ℕ) (segment : Segment) → IsNextSegment begin segment → cycle < begin → filter (is_in cycle) (frames_of segment) ≡ []
none_before begin cycle segment next soon = filter_none (is_in cycle) (frames_of segment) (λ came held.
    ne_eqb came.cycle cycle
    (late came.cycle (All-contains (λ (came : ArrivedFrame). (begin ≤ came.cycle) × (came.cycle < segment.upto)) (frames_of segment) came next.within held).0))
  where
    -- a cycle from the segment's begin on is another
    late : (other : ℕ) → begin ≤ other → other ≢ cycle
    late other from same = omega (arith, from, same, soon)

-- the inlet that takes the segment
pub inlet_takes : (come : Come) (least : ℕ) (before after : Inlet) (segment : Segment) → after.link ≡ before.link → after.upto ≡ segment.upto →
    after.log.frames.items ≡ before.log.frames.items ++ frames_of segment → IsNextSegment before.upto segment → IsInletOf come least before →
    IsInletOf (with_segment come before.link segment) least after
inlet_takes come least before after segment link upto log next stands =
    let m = before.link in
    let now = with_segment come m segment in
    let ends : now.upto m ≡ segment.upto = own_upto come.upto m segment.upto in
    let brings : now.brought m ≡ come.brought m ++ frames_of segment = own_more come.brought m (frames_of segment) in
    let had : MayHaveCome before.upto (come.brought m) = subst (λ (n : ℕ). MayHaveCome n (come.brought m)) (sym stands.upto) stands.may in
    let may : MayHaveCome (now.upto m) (now.brought m) =
    may_same segment.upto (now.upto m) (come.brought m ++ frames_of segment) (now.brought m) ends brings (more_may_come before.upto segment (come.brought m) next had) in
    record {
      upto = upto ∙ sym ends ∙ ap now.upto (sym link);
      may = subst (λ (l : ℕ). MayHaveCome (now.upto l) (now.brought l)) (sym link) may;
      held = may_same segment.upto after.upto (before.log.frames.items ++ frames_of segment) after.log.frames.items upto log
          (more_may_come before.upto segment before.log.frames.items next stands.held);
      holds = λ cycle later.
          ap (filter (is_in cycle)) log
          ∙ filter-append (is_in cycle) before.log.frames.items (frames_of segment)
          ∙ ap (λ (xs : List ArrivedFrame). xs ++ filter (is_in cycle) (frames_of segment)) (stands.holds cycle later)
          ∙ sym (filter-append (is_in cycle) (come.brought m) (frames_of segment))
          ∙ ap (filter (is_in cycle)) (sym brings)
          ∙ ap (λ (l : ℕ). filter (is_in cycle) (now.brought l)) (sym link);
    }

-- and the inlet of another link
pub inlet_beside : (come : Come) (least m : ℕ) (segment : Segment) (inlet : Inlet) → inlet.link ≢ m → IsInletOf come least inlet →
    IsInletOf (with_segment come m segment) least inlet
inlet_beside come least m segment inlet apart stands =
    let ends = other_upto come.upto m segment.upto inlet.link apart in
    let brings = other_more come.brought m (frames_of segment) inlet.link apart in
    record {
      upto = stands.upto ∙ sym ends;
      may = may_same (come.upto inlet.link) ((with_segment come m segment).upto inlet.link) (come.brought inlet.link) ((with_segment come m segment).brought inlet.link) ends
          brings stands.may;
      held = stands.held;
      holds = λ cycle later. stands.holds cycle later ∙ ap (filter (is_in cycle)) (sym brings);
    }

-- all inlets, each of a link of its own
pub inlets_take : (come : Come) (least index : ℕ) (segment : Segment) (inlets : List Inlet) (old new : Inlet) →
    AllPairs (λ (a b : ℕ). a < b) (map link_in inlets) → slice_get inlets index ≡ Some old → new.link ≡ old.link → new.upto ≡ segment.upto →
    new.log.frames.items ≡ old.log.frames.items ++ frames_of segment → IsNextSegment old.upto segment → All (IsInletOf come least) inlets →
    All (IsInletOf (with_segment come old.link segment) least) (set inlets index new)
inlets_take come least index segment inlets old new ascend at link upto log next stand k d below =
    let inside : k < length inlets = omega (arith, below, length-set inlets index new) in
    elim (cases_eq k index) [
      | inl e ↦
          let same : get_or (set inlets index new) k d ≡ new =
          ap (λ (i : ℕ). get_or (set inlets index new) i d) e ∙ get_or-set_same inlets index new d (slice_get_within inlets index old at) in
          subst (IsInletOf (with_segment come old.link segment) least) (sym same)
          (inlet_takes come least old new segment link upto log next (all_at (IsInletOf come least) inlets index old stand at))
      | inr differ ↦
          let same : get_or (set inlets index new) k d ≡ get_or inlets k d = get_or-set_other inlets index k new d differ in
          subst (IsInletOf (with_segment come old.link segment) least) (sym same)
          (inlet_beside come least old.link segment (get_or inlets k d)
          (apart_at link_in inlets k index (get_or inlets k d) old ascend differ (slice_get-get_or inlets k d inside) at)
          (stand k d inside))
    ]

-- what had arrived in a cycle is the same after a later segment
pub brought_same : (come : Come) (m : ℕ) (segment : Segment) (k cycle : ℕ) → IsNextSegment (come.upto m) segment → cycle < come.upto k →
    filter (is_in cycle) (come.brought k) ≡ filter (is_in cycle) ((with_segment come m segment).brought k)
brought_same come m segment k cycle next had = elim (cases_eq k m) [
  | inl e ↦
      let soon : cycle < come.upto m = subst (λ (l : ℕ). cycle < come.upto l) e had in
      sym
      (ap (filter (is_in cycle)) (cond-true (k == m) (come.brought k ++ frames_of segment) (come.brought k) (eq-eqb k m e))
      ∙ filter-append (is_in cycle) (come.brought k) (frames_of segment)
      ∙ ap (λ (xs : List ArrivedFrame). filter (is_in cycle) (come.brought k) ++ xs) (none_before (come.upto m) cycle segment next soon)
      ∙ append-nil (filter (is_in cycle) (come.brought k)))
  | inr apart ↦ ap (filter (is_in cycle)) (sym (other_more come.brought m (frames_of segment) k apart))
]

-- and so is what goes on of it by a link
pub comes_same : (d : Domain) (bridge : ℕ) (come : Come) (m : ℕ) (segment : Segment) (rows : List Row) (l cycle k : ℕ) → IsNextSegment (come.upto m) segment →
    (enters d k bridge ≡ true → leads rows k l ≡ true → cycle < come.upto k) →
    comes_by d bridge come rows l cycle k ≡ comes_by d bridge (with_segment come m segment) rows l cycle k
comes_same d bridge come m segment rows l cycle k next had =
    where_led (enters d k bridge) (leads rows k l) (λ here led. brought_same come m segment k cycle next (had here led))
  where
    -- if the frames are the same, so are those that go on
    where_led : (a b : Bool) →
        (a ≡ true → b ≡ true → filter (is_in cycle) (come.brought k) ≡ filter (is_in cycle) ((with_segment come m segment).brought k)) →
        (if a && b then that_go_on rows l (ingress.Link k) k (filter (is_in cycle) (come.brought k)) else [])
        ≡ (if a && b then that_go_on rows l (ingress.Link k) k (filter (is_in cycle) ((with_segment come m segment).brought k)) else [])
    where_led true true same = ap (that_go_on rows l (ingress.Link k) k) (same refl refl)
    where_led true false same = refl
    where_led false b same = refl

-- with a segment, at least as many cycles have arrived
upto_grows : (come : Come) (m : ℕ) (segment : Segment) (k cycle : ℕ) → IsNextSegment (come.upto m) segment → cycle < come.upto k → cycle < (with_segment come m segment).upto k
upto_grows come m segment k cycle next had = elim (cases_eq k m) [
  | inl e ↦
      let soon : cycle < come.upto m = subst (λ (l : ℕ). cycle < come.upto l) e had in
      let ends : (with_segment come m segment).upto k ≡ segment.upto = cond-true (k == m) segment.upto (come.upto k) (eq-eqb k m e) in
      omega (arith, soon, ends, next.following)
  | inr apart ↦ subst (λ (n : ℕ). cycle < n) (sym (other_upto come.upto m segment.upto k apart)) had
]

-- a link that has gone on has gone on in the same way with one more segment
pub goes_on_still : (d : Domain) (bridge : ℕ) (come : Come) (m : ℕ) (segment : Segment) (l cycle : ℕ) (sent : List Sent) → IsNextSegment (come.upto m) segment →
    GoesOnBy d bridge come l cycle sent → GoesOnBy d bridge (with_segment come m segment) l cycle sent
goes_on_still d bridge come m segment l cycle sent next goes = record {
  count = goes.count;
  had_table = goes.had_table;
  within = goes.within;
  had = λ k here led. upto_grows come m segment k cycle next (goes.had k here led);
  sorted = goes.sorted;
  is_queue =
      let rows = rows_of come.tables goes.count in
      let same : comes_to d bridge come rows l cycle ≡ comes_to d bridge (with_segment come m segment) rows l cycle =
      ap (λ (qs : List Queued). qs ++ that_go_on rows l ingress.Edge 4096 (map (came_of_going d cycle) (covered_in d bridge come cycle)))
      (same_below (comes_by d bridge come rows l cycle) (comes_by d bridge (with_segment come m segment) rows l cycle) (length d.links)
      (λ k inside. comes_same d bridge come m segment rows l cycle k next (goes.had k))) in
      subst (λ (qs : List Queued). IsPermutation qs goes.sorted) same goes.is_queue;
  in_order = goes.in_order;
  sends = goes.sends;
}

-- and the state of a link that leaves the bridge holds
pub outlet_beside : (d : Domain) (bridge : ℕ) (come : Come) (m : ℕ) (segment : Segment) (sends : List (List Sent)) (outlet : Outlet) →
    IsNextSegment (come.upto m) segment → IsOutletOf d bridge come sends outlet → IsOutletOf d bridge (with_segment come m segment) sends outlet
outlet_beside d bridge come m segment sends outlet next stands = record {
  wire = stands.wire;
  knows = stands.knows;
  as_far = stands.as_far;
  handed = stands.handed;
  pends = stands.pends;
  counts = stands.counts;
  marked = stands.marked;
  no_background = stands.no_background;
  gone = record {
    first = stands.gone.first;
    next = λ cycle soon. goes_on_still d bridge come m segment outlet.trace.link cycle (batch_at sends (cycle + 1)) next (stands.gone.next cycle soon);
  };
}

-- and that of the edge, which doesn't depend on segments
edge_beside : (d : Domain) (bridge : ℕ) (come : Come) (m : ℕ) (segment : Segment) (least : ℕ) (edge : Edge) → IsEdgeOf d bridge come least edge →
    IsEdgeOf d bridge (with_segment come m segment) least edge
edge_beside d bridge come m segment least edge stands =
    record { number = stands.number; held = stands.held; holds = stands.holds; counted = stands.counted }

-- a bridge takes a segment at an index
pub record TakesAt (index : ℕ) (segment : Segment) (before after : Relay) : Type 0 where
  pub domain : after.domain ≡ before.domain
  pub number : after.number ≡ before.number
  pub cycles : after.cycles ≡ before.cycles
  pub tables : after.tables ≡ before.tables
  pub known : after.known ≡ before.known
  pub outlets : after.outlets ≡ before.outlets
  pub edge : after.edge ≡ before.edge
  pub old : Inlet
  pub new : Inlet
  pub was : slice_get before.inlets.items index ≡ Some old
  pub is : after.inlets.items ≡ set before.inlets.items index new
  pub link : new.link ≡ old.link
  pub upto : new.upto ≡ segment.upto
  pub log : new.log.frames.items ≡ old.log.frames.items ++ frames_of segment

-- then its state holds with what arrived
pub relay_takes : (d : Domain) (come : Come) (sends : Sendings) (index : ℕ) (segment : Segment) (before after : Relay) (takes : TakesAt index segment before after) →
    IsNextSegment takes.old.upto segment → StandsSo d come sends before → StandsSo d (with_segment come takes.old.link segment) sends after
relay_takes d come sends index segment before after takes next stands =
    let m = takes.old.link in
    let old_is : IsInletOf come stands.least takes.old = all_at (IsInletOf come stands.least) before.inlets.items index takes.old stands.inlets takes.was in
    let comes_next : IsNextSegment (come.upto m) segment = subst (λ (begin : ℕ). IsNextSegment begin segment) old_is.upto next in
    let ascend : AllPairs (λ (a b : ℕ). a < b) (map link_in before.inlets.items) =
    subst (AllPairs (λ (a b : ℕ). a < b)) (sym stands.into) (numbers_ascend (λ (l : ℕ). enters d l before.number) (length d.links)) in
    let rows : AreKnown come.tables before.known after.outlets.items =
    subst (λ (outlets : Vec Outlet Global). AreKnown come.tables before.known outlets.items) (sym takes.outlets) stands.rows in
    record {
      of_domain = ap arc_value takes.domain ∙ stands.of_domain;
      tables_taken = takes.tables ∙ stands.tables_taken;
      offers_taken = stands.offers_taken;
      into = ap (map link_in) takes.is
          ∙ map_kept link_in before.inlets.items index takes.old takes.new takes.was takes.link
          ∙ stands.into
          ∙ ap (links_into d) (sym takes.number);
      from = ap (λ (outlets : Vec Outlet Global). map link_out outlets.items) takes.outlets ∙ stands.from ∙ ap (links_from d) (sym takes.number);
      rows = subst (λ (known : ℕ). AreKnown come.tables known after.outlets.items) (sym takes.known) rows;
      least = stands.least;
      early = subst (λ (outlets : Vec Outlet Global). All (λ (outlet : Outlet). stands.least ≤ outlet.sent - 1) outlets.items) (sym takes.outlets) stands.early;
      inlets = subst (All (IsInletOf (with_segment come m segment) stands.least)) (sym takes.is)
          (inlets_take come stands.least index segment before.inlets.items takes.old takes.new ascend takes.was takes.link takes.upto takes.log next stands.inlets);
      edge = subst (λ (bridge : ℕ). IsEdgeOf d bridge (with_segment come m segment) stands.least after.edge) (sym takes.number)
          (subst (λ (edge : Edge). IsEdgeOf d before.number (with_segment come m segment) stands.least edge) (sym takes.edge)
          (edge_beside d before.number come m segment stands.least before.edge stands.edge));
      outlets = subst
          (λ (bridge : ℕ). All (λ (outlet : Outlet). IsOutletOf d bridge (with_segment come m segment) (sends outlet.trace.link) outlet) after.outlets.items)
          (sym takes.number)
          (subst
          (λ (outlets : Vec Outlet Global). All (λ (outlet : Outlet). IsOutletOf d before.number (with_segment come m segment) (sends outlet.trace.link) outlet)
          outlets.items)
          (sym takes.outlets)
          (All-weaker (λ (outlet : Outlet). IsOutletOf d before.number come (sends outlet.trace.link) outlet)
          (λ (outlet : Outlet). IsOutletOf d before.number (with_segment come m segment) (sends outlet.trace.link) outlet)
          (λ outlet. outlet_beside d before.number come m segment (sends outlet.trace.link) outlet comes_next) before.outlets.items stands.outlets));
    }

-- so it has taken the segment
pub takes_segment : (index : ℕ) (segment : Segment) (before after : Relay) → TakesAt index segment before after → TakesSegment index segment before after
takes_segment index segment before after takes = record {
  same = record {
    domain = takes.domain;
    number = takes.number;
    cycles = takes.cycles;
    links_in = ap (map link_in) takes.is ∙ map_kept link_in before.inlets.items index takes.old takes.new takes.was takes.link;
    links_out = ap (λ (outlets : Vec Outlet Global). map link_out outlets.items) takes.outlets;
    wires = ap (λ (outlets : Vec Outlet Global). map wire_out outlets.items) takes.outlets;
    tidy = subst (λ (outlets : Vec Outlet Global). All IsTidy outlets.items) (sym takes.outlets);
    within = subst (λ (outlets : Vec Outlet Global). All (IsWithin before.cycles) outlets.items) (sym takes.outlets);
  };
  tables_same = takes.tables;
  drops_same = ap (λ (edge : Edge). edge.drops) takes.edge;
  outlets_same = takes.outlets;
  stands = λ d come sends inlet stands there.
      subst (λ (it : Inlet). IsNextSegment it.upto segment → StandsSo d (with_segment come it.link segment) sends after)
      (same_Some takes.old inlet (sym takes.was ∙ there)) (λ next. relay_takes d come sends index segment before after takes next stands);
}

-- if it is taken without a fault
pub segment_taken : {T E : Type 0} (result : Result T E) (index : ℕ) (segment : Segment) (before after : Relay) (old new : Inlet) →
    (new.upto ≡ segment.upto → new.log.frames.items ≡ old.log.frames.items ++ frames_of segment → TakesAt index segment before after) →
    OnOk result (new.upto ≡ segment.upto) → OnOk result (new.log.frames.items ≡ old.log.frames.items ++ frames_of segment) →
    OnOk result (TakesSegment index segment before after)
segment_taken (Ok done) index segment before after old new takes upto log = takes_segment index segment before after (takes upto log)
segment_taken (Err fault) index segment before after old new takes upto log = upto
