-- What sources bring to a bridge, and its part in a cycle.
use Rattle.std.proofs.Common.{◌≡◌, ℕ, ◌+◌, ◌-◌, ◌*◌, ◌<◌, ◌≤◌, ◌++◌, List, Bool, true, false, drop, get_or, length, sym, ap, ◌∙◌, arith, subst, take, refl}
use Rattle.std.proofs.Common.{All, AllPairs, Contains, append-nil, append_assoc, eq-eqb, ne_eqb, inl, inr}
use Rattle.std.specs.Prelude.{◌==◌, ◌⊎◌, ◌||◌, [], ◌∷◌, filter, if◌then◌else◌, map, min, nat_le, nat_lt, replicate}
use Rattle.std.specs.Global.{Global}
use Rattle.std.specs.declared.vec.Vec.{Vec}
use Rattle.std.specs.List.{flat_map, list_any}
use Rattle.std.specs.List.Sorted.{IsNonDecreasingBy, IsPartitionPoint, IsPartitionedBy}
use Rattle.std.proofs.lemmas.List.Sorted.{IsNonDecreasingBy-drop, IsPartitionedBy-leb, IsPartitionedBy-ltb}
use Rattle.std.proofs.lemmas.Bool.{cases_eq, cases_lt, cond-false, cond-true, eqb-true, false≢true, le-leb, lt-ltb, leb-true, ltb-true}
use Rattle.std.proofs.lemmas.Grind.{flat_map-append}
use Rattle.std.proofs.lemmas.List.{get_or-drop, get_or-take, length-drop, length-take-le, take-append-drop, replicate_more, take_all, take_more}
use Rattle.std.proofs.lemmas.List.Elements.{All-append, All-contains, Contains-get_or, filter-append}
use Rattle.std.proofs.lemmas.List.Kept.{IsNonDecreasingBy-filter}
use Rattle.std.proofs.lemmas.Simd.{map-map}
use Rattle.cqf_lists.specs.Lists.{each_below}
use Rattle.cqf_lists.proofs.EachBelow.{contains_from_below, filter_each, filter_none, map_below, same_below}
use Rattle.cqf_lists.proofs.Filters.{filter_weaker}
use Rattle.cqf_lists.proofs.Kept.{flat_none}
use Rattle.cqf_lists.proofs.Members.{all_from_members, contains_from_filter, contains_from_map, contains_from_take}
use Rattle.cqf_lists.proofs.Pairs.{pairs_append, pairs_below}
use Rattle.cqf_lists.proofs.Picked.{filter_one}
use Rattle.cqf_model.specs.declared.frames.Sent.{Sent}
use Rattle.cqf_model.specs.Domain.{Domain}
use Rattle.cqf_model.specs.Policing.{whole_at}
use Rattle.cqf_relay.specs.declared.inlet.Inlet.{Inlet}
use Rattle.cqf_relay.specs.declared.leads.By.{By}
use Rattle.cqf_relay.specs.declared.leads.By.TheVariants.{Nothing, Edge, Link}
use Rattle.cqf_relay.specs.declared.leads.Leads.{Leads}
use Rattle.cqf_relay.specs.declared.log.ArrivedFrame.{ArrivedFrame}
use Rattle.cqf_relay.specs.declared.log.SourceLog.{SourceLog}
use Rattle.cqf_relay.specs.declared.moving.Segment.{Segment}
use Rattle.cqf_relay.specs.declared.queue.Queued.{Queued}
use Rattle.cqf_relay.specs.Segments.{IsNextSegment, IsSegmentOf, batch_at, came_in, frames_of, moving_in}
use Rattle.cqf_relay.specs.Leading.{LearnsRow, by_at, is_link, is_some, same_by}
use Rattle.cqf_relay.specs.Logs.{ByCycle, KeepsFrom, came_by_segment, cycle_of_came, is_in}
use Rattle.cqf_relay.specs.Queues.{AreByCycle, AreLeads, goes_from, queue_of, queued, queued_by}
use Rattle.cqf_relay.specs.Standing.{Come, IsInletOf, MayHaveCome, with_segment}

module _ {X : Type 0} where
  -- if all elements before and after a section fail a test, and all in it pass, the test keeps the section
  pub kept_between : (p : X → Bool) (before between following : List X) → ((x : X) → Contains before x → p x ≡ false) → ((x : X) → Contains between x → p x ≡ true)
      → ((x : X) → Contains following x → p x ≡ false) → filter p (before ++ (between ++ following)) ≡ between
  kept_between p before between following early here late =
      let first : filter p before ≡ [] = filter_none p before early in
      let own : filter p between ≡ between = filter_each p between here in
      let last : filter p following ≡ [] = filter_none p following late in
      filter-append p before (between ++ following) ∙ ap (λ (xs : List X). xs ++ filter p (between ++ following)) first
      ∙ filter-append p between following ∙ (λ i. own i ++ last i) ∙ append-nil between

  module _ (p : X → Bool) (xs : List X) (n : ℕ) (cut : IsPartitionPoint (λ y. p y ≡ true) (λ y. p y ≡ false) xs n) (upto : n ≤ length xs) where
    -- an element before a cut passes its test
    pub before_cut : (x : X) → Contains (take n xs) x → p x ≡ true
    before_cut x held =
        let within : held.0 < n = omega (arith, held.1, length-take-le n xs upto) in
        let at : get_or xs held.0 x ≡ x = sym (get_or-take n xs held.0 x within) ∙ held.2 in
        ap p (sym at) ∙ cut.0 held.0 x (omega arith) within

    -- and an element after it fails
    pub after_cut : (x : X) → Contains (drop n xs) x → p x ≡ false
    after_cut x held =
        let at : get_or xs (n + held.0) x ≡ x = sym (get_or-drop n xs held.0 x) ∙ held.2 in
        ap p (sym at) ∙ cut.1 (n + held.0) x (omega arith) (omega (arith, held.1, length-drop n xs, upto))

-- a number that isn't less than another is equal or greater
not_below : (a b : ℕ) → nat_lt a b ≡ false → b ≤ a
not_below a b past = elim (cases_lt a b) [
  | inl l ↦ absurd (false≢true (sym past ∙ lt-ltb a b l))
  | inr g ↦ g
]

-- and one that isn't less or equal is greater
not_upto : (a b : ℕ) → nat_le a b ≡ false → b < a
not_upto a b past = elim (cases_lt b a) [
  | inl l ↦ l
  | inr g ↦ absurd (false≢true (sym past ∙ le-leb a b g))
]

module _ {X : Type 0} (key : X → ℕ) where
  -- in a list with non-decreasing keys, exactly the elements from the first cut to the second have the key
  pub cut_of_key : (t : ℕ) (xs whole rest : List X) (from count : ℕ) → xs ≡ whole → IsNonDecreasingBy key whole →
      (IsPartitionedBy (λ y. nat_lt (key y) t) xs → IsPartitionPoint (λ y. nat_lt (key y) t ≡ true) (λ y. nat_lt (key y) t ≡ false) xs from) →
      from ≤ length xs → rest ≡ take (length xs - from) (drop from xs) →
      (IsPartitionedBy (λ y. nat_le (key y) t) rest → IsPartitionPoint (λ y. nat_le (key y) t ≡ true) (λ y. nat_le (key y) t ≡ false) rest count) →
      count ≤ length rest → take count rest ≡ filter (λ x. key x == t) whole
  cut_of_key t xs whole rest from count same up first upto is last within =
      let rise : IsNonDecreasingBy key xs = subst (IsNonDecreasingBy key) (sym same) up in
      let all_after : rest ≡ drop from xs = is ∙ take_all (length xs - from) (drop from xs) (omega (arith, length-drop from xs)) in
      let point = first (IsPartitionedBy-ltb key xs t rise) in
      let next = last (subst (λ (ys : List X). IsPartitionedBy (λ y. nat_le (key y) t) ys) (sym all_after)
      (IsPartitionedBy-leb key (drop from xs) t (IsNonDecreasingBy-drop key from xs rise))) in
      let parts : take from xs ++ (take count rest ++ drop count rest) ≡ xs =
      ap (λ (ys : List X). take from xs ++ ys) (take-append-drop count rest ∙ all_after) ∙ take-append-drop from xs in
      let least : (x : X) → Contains rest x → t ≤ key x = λ x h.
      not_below (key x) t (after_cut (λ y. nat_lt (key y) t) xs from point upto x (subst (λ (ys : List X). Contains ys x) all_after h)) in
      let early : (x : X) → Contains (take from xs) x → (key x == t) ≡ false = λ x h.
      ne_eqb (key x) t (λ e. omega (arith, e, ltb-true (key x) t (before_cut (λ y. nat_lt (key y) t) xs from point upto x h))) in
      let late : (x : X) → Contains (drop count rest) x → (key x == t) ≡ false = λ x h.
      ne_eqb (key x) t (λ e. omega (arith, e, not_upto (key x) t (after_cut (λ y. nat_le (key y) t) rest count next within x h))) in
      let here : (x : X) → Contains (take count rest) x → (key x == t) ≡ true = λ x h.
      eq-eqb (key x) t (omega (
        arith,
        least x (contains_from_take rest count x h),
        leb-true (key x) t (before_cut (λ y. nat_le (key y) t) rest count next within x h),
      )) in
      sym (kept_between (λ x. key x == t) (take from xs) (take count rest) (drop count rest) early here late)
      ∙ ap (filter (λ x. key x == t)) (parts ∙ same)

-- frames; those from a cycle on are kept
pub keeps_from : (before : ℕ) (old new : List ArrivedFrame) → new ≡ filter (λ (came : ArrivedFrame). nat_le before came.cycle) old → KeepsFrom before old new
keeps_from before old new is =
    let keeps = λ (came : ArrivedFrame). nat_le before came.cycle in
    record {
      by_cycle = λ up. subst ByCycle (sym is) (IsNonDecreasingBy-filter cycle_of_came keeps old up);
      kept = λ cycle from.
          ap (filter (is_in cycle)) is
          ∙ sym (filter_weaker (is_in cycle) keeps old (λ came h own. le-leb before came.cycle (omega (arith, from, eqb-true came.cycle cycle own))));
      no_more = λ came h. (contains_from_filter keeps old came (subst (λ (xs : List ArrivedFrame). Contains xs came) is h)).0;
    }

module _ (leads : Leads) (cycle : ℕ) (inlets : List Inlet) (edge : SourceLog) (n : ℕ) (inlet : Inlet) (old now next : List Queued) (needed : Bool)
    (within : n < length inlets) (at : inlet ≡ get_or inlets n inlet) (all : AreByCycle inlets edge)
    (so : now ≡ old ++ flat_map (queued_by leads cycle) (take n inlets)) (asked : needed ≡ list_any (λ it. it == inlet.link) leads.needs.items) where
  -- appending one more inlet's frames gives the frames of one more inlet
  one_more_inlet : next ≡ now ++ queued_by leads cycle inlet → next ≡ old ++ flat_map (queued_by leads cycle) (take (n + 1) inlets)
  one_more_inlet more =
      let by = queued_by leads cycle in
      let own : take (n + 1) inlets ≡ take n inlets ++ inlet ∷ [] =
      take_more inlets n inlet within ∙ ap (λ (it : Inlet). take n inlets ++ it ∷ []) (sym at) in
      let grown : flat_map by (take (n + 1) inlets) ≡ flat_map by (take n inlets) ++ by inlet =
      ap (flat_map by) own ∙ flat_map-append by (take n inlets) (inlet ∷ [])
      ∙ ap (λ (qs : List Queued). flat_map by (take n inlets) ++ qs) (append-nil (by inlet)) in
      more ∙ ap (λ (qs : List Queued). qs ++ by inlet) so ∙ append_assoc old (flat_map by (take n inlets)) (by inlet)
      ∙ ap (λ (qs : List Queued). old ++ qs) (sym grown)

  -- the frames of an inlet that is needed are appended to the others
  pub needed_inlet : needed ≡ true →
      (ByCycle inlet.log.frames.items → next ≡ now ++ goes_from leads.rows.items (Link inlet.link) inlet.link cycle inlet.log.frames.items) →
      next ≡ old ++ flat_map (queued_by leads cycle) (take (n + 1) inlets)
  needed_inlet is_needed put =
      let up : ByCycle inlet.log.frames.items = subst (λ (it : Inlet). ByCycle it.log.frames.items) (sym at) (all.links n inlet within) in
      let goes = goes_from leads.rows.items (Link inlet.link) inlet.link cycle inlet.log.frames.items in
      one_more_inlet (put up ∙ ap (λ (qs : List Queued). now ++ qs)
      (sym (cond-true (list_any (λ it. it == inlet.link) leads.needs.items) goes [] (sym asked ∙ is_needed))))

  -- and those of one that isn't needed aren't
  pub unneeded_inlet : needed ≡ false → next ≡ now → next ≡ old ++ flat_map (queued_by leads cycle) (take (n + 1) inlets)
  unneeded_inlet not_so same =
      let goes = goes_from leads.rows.items (Link inlet.link) inlet.link cycle inlet.log.frames.items in
      one_more_inlet (same ∙ sym (append-nil now) ∙ ap (λ (qs : List Queued). now ++ qs)
      (sym (cond-false (list_any (λ it. it == inlet.link) leads.needs.items) goes [] (sym asked ∙ not_so))))

-- with the frames of the edge after those of all inlets, all that go on are waiting
pub all_gathered : (leads : Leads) (cycle : ℕ) (inlets : List Inlet) (edge : SourceLog) (n : ℕ) (old now next : List Queued) → length inlets ≤ n →
    now ≡ old ++ flat_map (queued_by leads cycle) (take n inlets) → next ≡ now ++ goes_from leads.rows.items Edge 4096 cycle edge.frames.items →
    next ≡ old ++ queue_of leads inlets edge cycle
all_gathered leads cycle inlets edge n old now next all so more =
    let goes = goes_from leads.rows.items Edge 4096 cycle edge.frames.items in
    more ∙ ap (λ (qs : List Queued). qs ++ goes) (so ∙ ap (λ (its : List Inlet). old ++ flat_map (queued_by leads cycle) its) (take_all n inlets all))
    ∙ append_assoc old (flat_map (queued_by leads cycle) inlets) goes

-- nothing goes on by a link to which no row leads
pub nothing_goes : (leads : Leads) (inlets : List Inlet) (edge : SourceLog) (cycle : ℕ) → AreLeads leads → leads.used ≡ false → queue_of leads inlets edge cycle ≡ []
nothing_goes leads inlets edge cycle fits unused =
    let by_link : flat_map (queued_by leads cycle) inlets ≡ [] = flat_none (queued_by leads cycle) inlets (λ inlet h.
    ap (λ (b : Bool). if b then goes_from leads.rows.items (Link inlet.link) inlet.link cycle inlet.log.frames.items else [])
    (ap (list_any (λ it. it == inlet.link)) (fits.unneeded unused))) in
    let offered : goes_from leads.rows.items Edge 4096 cycle edge.frames.items ≡ [] =
    ap (map (queued 4096)) (filter_none (λ (came : ArrivedFrame). same_by (by_at leads.rows.items came.row) Edge) (filter (is_in cycle) edge.frames.items)
    (λ came h. ap (λ (by : By). same_by by Edge) (fits.unused unused came.row))) in
    λ i. by_link i ++ offered i

-- this many more rows are known, and none of them leads to the link
pub record HasNothingMore (count : ℕ) (before now : Leads) : Type 0 where
  pub rows : now.rows.items ≡ before.rows.items ++ replicate count Nothing
  pub needs : now.needs ≡ before.needs
  pub used : now.used ≡ before.used

-- at first no more rows are known
pub nothing_first : (count : ℕ) (before : Leads) → count ≡ 0 → HasNothingMore count before before
nothing_first count before none =
    record {
      rows =
          sym (append-nil before.rows.items)
          ∙ ap (λ (k : ℕ). before.rows.items ++ replicate k Nothing) (sym none);
      needs = refl;
      used = refl;
    }

-- and then one more, which doesn't lead to the link
pub nothing_more : (count later : ℕ) (before now next : Leads) → later ≡ count + 1 → HasNothingMore count before now →
    next.rows.items ≡ now.rows.items ++ Nothing ∷ [] → next.needs ≡ now.needs → next.used ≡ now.used → HasNothingMore later before next
nothing_more count later before now next is so rows needs used =
    record {
      rows =
          rows
          ∙ ap (λ (xs : List By). xs ++ Nothing ∷ []) so.rows
          ∙ append_assoc before.rows.items (replicate count Nothing) (Nothing ∷ [])
          ∙ ap (λ (xs : List By). before.rows.items ++ xs) (replicate_more count Nothing ∙ ap (λ (k : ℕ). replicate k Nothing) (sym is));
      needs = needs ∙ so.needs;
      used = used ∙ so.used;
    }

module _ (number count : ℕ) (before now between after : Leads) (by ingress : By) where
  -- a row is learned after these, and what it says is recorded
  pub row_learned : HasNothingMore count before now → count ≡ number - length before.rows.items → by ≡ ingress → between.rows.items ≡ now.rows.items ++ by ∷ []
      → between.needs ≡ now.needs → between.used ≡ now.used → after.rows ≡ between.rows →
      ((m : ℕ) → list_any (λ it. it == m) after.needs.items ≡ (list_any (λ it. it == m) between.needs.items || is_link by m)) →
      after.used ≡ (between.used || is_some by) → LearnsRow number ingress before after
  row_learned so many is rows needs used rows_stay needs_more used_more =
      let front : now.rows.items ≡ before.rows.items ++ replicate (number - length before.rows.items) Nothing =
      so.rows ∙ ap (λ (k : ℕ). before.rows.items ++ replicate k Nothing) many in
      record {
        rows =
            ap (λ (xs : Vec By Global). xs.items) rows_stay ∙ rows ∙ ap (λ (xs : List By). xs ++ by ∷ []) front
            ∙ ap (λ (it : By). before.rows.items ++ replicate (number - length before.rows.items) Nothing ++ it ∷ []) is;
        needs = λ m.
            needs_more m
            ∙ ap (λ (xs : Vec ℕ Global). list_any (λ it. it == m) xs.items || is_link by m) (needs ∙ so.needs)
            ∙ ap (λ (it : By). list_any (λ it. it == m) before.needs.items || is_link it m) is;
        used = used_more ∙ ap (λ (b : Bool). b || is_some by) (used ∙ so.used) ∙ ap (λ (it : By). before.used || is_some it) is;
      }

-- a list in which no later key is less than an earlier one
pub rises : {X : Type 0} (key : X → ℕ) (xs : List X) → AllPairs (λ (x y : X). key x ≤ key y) xs → IsNonDecreasingBy key xs
rises key xs pairs i j d le within = elim (cases_eq i j) [
  | inl same ↦ omega (arith, ap (λ (k : ℕ). key (get_or xs k d)) same)
  | inr differ ↦ pairs i j d (omega (arith, le, differ)) within
]

-- frames appended to others, both in order of cycle, the latter of cycles before one, and the former of that one and later ones
pub after_by_cycle : (begin : ℕ) (old new : List ArrivedFrame) → ByCycle old → All (λ (came : ArrivedFrame). came.cycle < begin) old → ByCycle new →
    All (λ (came : ArrivedFrame). begin ≤ came.cycle) new → ByCycle (old ++ new)
after_by_cycle begin old new old_up early new_up late =
    rises cycle_of_came (old ++ new)
    (pairs_append (λ (x y : ArrivedFrame). x.cycle ≤ y.cycle) old new (λ i j d l within. old_up i j d (omega (arith, l)) within)
    (λ i j d l within. new_up i j d (omega (arith, l)) within)
    (λ x y in_old in_new. omega (
      arith,
      All-contains (λ (came : ArrivedFrame). came.cycle < begin) old x early in_old,
      All-contains (λ (came : ArrivedFrame). begin ≤ came.cycle) new y late in_new,
    )))

-- if all keys are the same, they don't decrease
pairs_alike : {X : Type 0} (key : X → ℕ) (k : ℕ) (xs : List X) → ((x : X) → Contains xs x → key x ≡ k) → AllPairs (λ (x y : X). key x ≤ key y) xs
pairs_alike key k xs same i j d l within =
    omega (arith, same (get_or xs i d) (Contains-get_or xs i d (omega (arith, l, within))), same (get_or xs j d) (Contains-get_or xs j d within))

module _ (d : Domain) (m : ℕ) (sends : List (List Sent)) (begin : ℕ) (segment : Segment) (so : IsSegmentOf d m sends begin segment) (few : segment.upto ≤ 4294967295) where
  -- what a link sent in the cycle of a number after the first, as it arrives
  abbrev batch_of : ℕ → List ArrivedFrame
  batch_of k = map (came_in d m (begin + k)) (batch_at sends (begin + k))

  -- a frame of the segment arrives as the link sent it
  comes_as_sent : (k : ℕ) (sent : Sent) → segment.from ≤ k → k < segment.upto → came_by_segment segment.from (moving_in d m segment.from k sent) ≡ came_in d m k sent
  comes_as_sent k sent counted before =
      let same : min (segment.from + (k - segment.from)) 4294967295 ≡ k = omega (arith, counted, before, few) in
      let of_cycle : ℕ → ArrivedFrame = λ n.
      record { cycle = n; at = whole_at d m sent - k * d.cycle_time; frame = sent.frame; row = sent.stream; octets = sent.octets } in
      ap of_cycle same

  -- and so do those of a cycle
  batch_comes : (k : ℕ) → begin ≤ k → k < segment.upto →
      map (came_by_segment segment.from) (map (moving_in d m segment.from k) (batch_at sends k)) ≡ map (came_in d m k) (batch_at sends k)
  batch_comes k from before = each_comes (batch_at sends k) (so.counts k from before)
    where
      -- frames arrive as they were sent if their cycle is counted
      each_comes : (batch : List Sent) → ((batch ≡ [] → ⊥) → segment.from ≤ k) →
          map (came_by_segment segment.from) (map (moving_in d m segment.from k) batch) ≡ map (came_in d m k) batch
      each_comes [] counts = refl
      each_comes (x ∷ xs) counts =
          map-map (came_by_segment segment.from) (moving_in d m segment.from k) (x ∷ xs)
          ∙ (λ i. map (λ (sent : Sent). comes_as_sent k sent (counts (λ e. cc)) before i) (x ∷ xs))

  -- a segment's frames are what the link sent, cycle by cycle
  pub frames_come : frames_of segment ≡ each_below (λ k. map (came_in d m (begin + k)) (batch_at sends (begin + k))) (segment.upto - begin)
  frames_come =
      ap (map (came_by_segment segment.from)) so.carries
      ∙ map_below (came_by_segment segment.from) (λ k. map (moving_in d m segment.from (begin + k)) (batch_at sends (begin + k))) (segment.upto - begin)
      ∙ same_below (λ k. map (came_by_segment segment.from) (map (moving_in d m segment.from (begin + k)) (batch_at sends (begin + k))))
      (λ k. map (came_in d m (begin + k)) (batch_at sends (begin + k))) (segment.upto - begin)
      (λ k l. batch_comes (begin + k) (omega arith) (omega (arith, l)))

  -- what was sent in a cycle arrives in it
  cycle_of_sent : (k : ℕ) (came : ArrivedFrame) → Contains (map (came_in d m k) (batch_at sends k)) came → came.cycle ≡ k
  cycle_of_sent k came h = sym (ap cycle_of_came (contains_from_map (came_in d m k) (batch_at sends k) came h).2)

  -- in each cycle that a segment carries, its frames are what the link sent in it
  pub segment_in_cycle : (cycle : ℕ) → begin ≤ cycle → cycle < segment.upto → filter (is_in cycle) (frames_of segment) ≡ map (came_in d m cycle) (batch_at sends cycle)
  segment_in_cycle cycle from before =
      let at : begin + (cycle - begin) ≡ cycle = omega (arith, from) in
      ap (filter (is_in cycle)) frames_come
      ∙ filter_one (is_in cycle) (λ k. map (came_in d m (begin + k)) (batch_at sends (begin + k))) (segment.upto - begin) (cycle - begin)
      (omega (arith, from, before))
      (λ j came differ h. ne_eqb came.cycle cycle (λ e. differ (omega (arith, e, from, cycle_of_sent (begin + j) came h))))
      ∙ ap (λ (k : ℕ). filter (is_in cycle) (map (came_in d m k) (batch_at sends k))) at
      ∙ filter_each (is_in cycle) (map (came_in d m cycle) (batch_at sends cycle)) (λ came h. eq-eqb came.cycle cycle (cycle_of_sent cycle came h))

  -- each of its frames is of a cycle that it carries
  pub segment_within : (came : ArrivedFrame) → Contains (frames_of segment) came → (begin ≤ came.cycle) × (came.cycle < segment.upto)
  segment_within came h =
      let r = contains_from_below batch_of (segment.upto - begin) came (subst (λ (xs : List ArrivedFrame). Contains xs came) frames_come h) in
      let at : came.cycle ≡ begin + r.0 = cycle_of_sent (begin + r.0) came r.2 in
      (omega (arith, at), omega (arith, at, r.1))

  -- so it has none of other cycles
  pub segment_not_in_cycle : (cycle : ℕ) → (cycle < begin) ⊎ (segment.upto ≤ cycle) → filter (is_in cycle) (frames_of segment) ≡ []
  segment_not_in_cycle cycle outside = filter_none (is_in cycle) (frames_of segment) (λ came h. ne_eqb came.cycle cycle (other came h))
    where
      -- none of its frames is of the cycle
      other : (came : ArrivedFrame) → Contains (frames_of segment) came → came.cycle ≡ cycle → ⊥
      other came h e =
          let within = segment_within came h in
          elim outside [
            | inl before ↦ omega (arith, e, before, within.0)
            | inr following ↦ omega (arith, e, following, within.1)
          ]

  -- and it may come next, after what arrived before its first cycle
  pub segment_is_next : IsNextSegment begin segment
  segment_is_next =
      record {
        following = so.following;
        by_cycle =
            subst ByCycle (sym frames_come) (rises cycle_of_came (each_below batch_of (segment.upto - begin))
            (pairs_below (λ (x y : ArrivedFrame). x.cycle ≤ y.cycle) batch_of (segment.upto - begin)
            (λ k l. pairs_alike cycle_of_came (begin + k) (batch_of k) (cycle_of_sent (begin + k)))
            (λ j k x y l below hx hy. omega (arith, l, cycle_of_sent (begin + j) x hx, cycle_of_sent (begin + k) y hy))));
        within = all_from_members (λ (came : ArrivedFrame). (begin ≤ came.cycle) × (came.cycle < segment.upto)) (frames_of segment) segment_within;
      }

-- what may have arrived, followed by a segment that may come next, may have arrived
pub segment_may_come : (begin : ℕ) (brought : List ArrivedFrame) (segment : Segment) → MayHaveCome begin brought → IsNextSegment begin segment →
    MayHaveCome segment.upto (brought ++ frames_of segment)
segment_may_come begin brought segment may next =
    record {
      by_cycle = after_by_cycle begin brought (frames_of segment) may.by_cycle may.within next.by_cycle (λ k z inside. (next.within k z inside).0);
      within =
          All-append (λ (came : ArrivedFrame). came.cycle < segment.upto) brought (frames_of segment) (λ k z inside. omega (arith, may.within k z inside, next.following))
          (λ k z inside. (next.within k z inside).1);
    }

-- an inlet that takes a segment that may come next has what its link brought with it
pub inlet_takes : (come : Come) (least : ℕ) (before after : Inlet) (segment : Segment) → IsInletOf come least before → IsNextSegment before.upto segment →
    after.link ≡ before.link → after.upto ≡ segment.upto → after.log.frames.items ≡ before.log.frames.items ++ frames_of segment →
    IsInletOf (with_segment come before.link segment) least after
inlet_takes come least before after segment is next link upto log =
    let m = before.link in
    let own : (after.link == m) ≡ true = eq-eqb after.link m link in
    let more : (with_segment come m segment).brought after.link ≡ come.brought m ++ frames_of segment =
    cond-true (after.link == m) (come.brought after.link ++ frames_of segment) (come.brought after.link) own
    ∙ ap (λ (k : ℕ). come.brought k ++ frames_of segment) link in
    let later : (with_segment come m segment).upto after.link ≡ segment.upto = cond-true (after.link == m) segment.upto (come.upto after.link) own in
    let next_of : IsNextSegment (come.upto m) segment = subst (λ (n : ℕ). IsNextSegment n segment) is.upto next in
    let may : MayHaveCome segment.upto ((with_segment come m segment).brought after.link) =
    subst (MayHaveCome segment.upto) (sym more) (segment_may_come (come.upto m) (come.brought m) segment is.may next_of) in
    let held : MayHaveCome segment.upto after.log.frames.items =
    subst (MayHaveCome segment.upto) (sym log) (segment_may_come before.upto before.log.frames.items segment is.held next) in
    record {
      upto = upto ∙ sym later;
      may = subst (λ (n : ℕ). MayHaveCome n ((with_segment come m segment).brought after.link)) (sym later) may;
      held = subst (λ (n : ℕ). MayHaveCome n after.log.frames.items) (sym upto) held;
      holds = λ cycle from.
          ap (filter (is_in cycle)) log
          ∙ filter-append (is_in cycle) before.log.frames.items (frames_of segment)
          ∙ ap (λ (xs : List ArrivedFrame). xs ++ filter (is_in cycle) (frames_of segment)) (is.holds cycle from)
          ∙ sym (ap (filter (is_in cycle)) more ∙ filter-append (is_in cycle) (come.brought m) (frames_of segment));
    }

-- so one that takes a segment of what its link sent after what arrived before has what its link brought with it
pub inlet_takes_sent : (d : Domain) (sends : List (List Sent)) (come : Come) (least : ℕ) (before after : Inlet) (segment : Segment) → IsInletOf come least before →
    IsSegmentOf d before.link sends before.upto segment → segment.upto ≤ 4294967295 → after.link ≡ before.link → after.upto ≡ segment.upto →
    after.log.frames.items ≡ before.log.frames.items ++ frames_of segment → IsInletOf (with_segment come before.link segment) least after
inlet_takes_sent d sends come least before after segment is so few link upto log =
    inlet_takes come least before after segment is (segment_is_next d before.link sends before.upto segment so few) link upto log
