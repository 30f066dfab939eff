-- A link's queue, sorted by its keys, is what a cycle queues to the link.
use Rattle.std.proofs.Common.{◌≡◌, ℕ, ◌+◌, ◌-◌, ◌*◌, ◌/◌, ◌<◌, ◌≤◌, Bool, true, false, cond, List, length, get_or, inl}
use Rattle.std.proofs.Common.{inr, refl, sym, ap, ap₂, ◌∙◌, arith, subst, AllPairs, Contains}
use Rattle.std.proofs.Common.{eq-eqb, eqb-true}
use Rattle.std.specs.Prelude.{[], ◌++◌, ◌==◌, map, filter}
use Rattle.std.specs.List.{flat_map}
use Rattle.std.specs.List.Sorted.{IsNonDecreasingBy, IsPermutation}
use Rattle.std.proofs.lemmas.Bool.{and_from, and_parts, cases_order}
use Rattle.std.proofs.lemmas.List.Elements.{Contains-append_cases, Contains-append_left, Contains-append_right, Contains-get_or, filter-append}
use Rattle.std.proofs.lemmas.List.Kept.{AllPairs-filter}
use Rattle.std.proofs.lemmas.List.Sorted.{Contains-permutation, IsPermutation-sym}
use Rattle.cqf_lists.specs.Lists.{each_below}
use Rattle.cqf_lists.proofs.EachBelow.{contains_below, contains_from_below, filter_below, same_below}
use Rattle.cqf_lists.proofs.Filters.{filter-map}
use Rattle.cqf_lists.proofs.Made.{contains_if_there}
use Rattle.cqf_lists.proofs.Members.{contains_filter, contains_from_filter, contains_from_map, contains_map}
use Rattle.cqf_lists.proofs.Pairs.{pairs_map, pairs_weaker}
use Rattle.cqf_units.proofs.Cycles.{cycle_from, cycle_is, cycle_upto}
use Rattle.cqf_model.specs.declared.frames.Offered.{Offered}
use Rattle.cqf_model.specs.declared.frames.Sent.{Sent}
use Rattle.cqf_model.specs.Domain.{bridge_of, cycle_of, enters}
use Rattle.cqf_model.specs.Network.{Network, queued_in}
use Rattle.cqf_model.specs.Run.{Run}
use Rattle.cqf_model.specs.Policing.{Carried, Received, is_offered_at, numbered, offer_received, received_at, sent_received}
use Rattle.cqf_model.specs.Promise.{MeansTheShift}
use Rattle.cqf_model.proofs.Coming.{received_when}
use Rattle.cqf_model.proofs.Represented.{few_links}
use Rattle.cqf_laws_shift.proofs.Came.{numbered_member, numbers_ascend}
use Rattle.cqf_laws_cycle.specs.BridgeCycle.{BatchIsWholeInItsCycle, CycleBringsItsBatches, FramesKeepTheirOrder, IsCompiledNetwork, received_in}
use Rattle.cqf_laws_cycle.specs.Gathered.{is_offered_in, offered_for}
use Rattle.cqf_laws_instants.specs.GatheredLaws.{gathered_from, gathered_of, key_of}
use Rattle.cqf_laws_instants.specs.QueueLaws.{following, goes_by}
use Rattle.cqf_laws_instants.specs.TakenLaws.{AreItsBatches, IsTakenBefore, StandAsTaken, source_of}
use Rattle.cqf_laws_instants.proofs.After.{kept_queue}
use Rattle.cqf_laws_instants.proofs.Gathers.{HasTheTaken, batches_in_order, brought, cycle_in_order, gathered_has, sorted_of, with_offers}
use Rattle.cqf_laws_instants.proofs.Ordered.{Either}
use Rattle.cqf_laws_instants.proofs.Order.{link_source, offer_source}

-- ---- keys

-- a frame has a unique key: it is no sooner than the beginning, and its source and its number are small
record HasKey (begins : ℕ) (x : Received) : Type 0 where
  from : begins ≤ x.at
  source : source_of x.ingress < 8192
  number : x.frame < 16777216

-- a frame that is taken before another one has the smaller key
smaller_key : (begins : ℕ) (a b : Received) → HasKey begins a → HasKey begins b → IsTakenBefore a b → key_of begins a < key_of begins b
smaller_key begins a b x y h = omega (arith, x.from, x.source, x.number, y.from, y.source, y.number, h)

-- so frames sorted by keys are in the order in which they are taken
stand_by_keys : (begins : ℕ) (sorted : List Received) → ((x : Received) → Contains sorted x → HasKey begins x) → IsNonDecreasingBy (key_of begins) sorted →
    StandAsTaken sorted
stand_by_keys begins sorted keys rise i j d less inside before =
    let a = get_or sorted i d in
    let b = get_or sorted j d in
    let l : key_of begins b < key_of begins a =
    smaller_key begins b a (keys b (Contains-get_or sorted j d inside)) (keys a (Contains-get_or sorted i d (omega (arith, less, inside)))) before in
    let le : key_of begins a ≤ key_of begins b = rise i j d (omega (arith, less)) inside in
    omega (arith, l, le)

-- ---- offers by index

-- two frames of the same source with different numbers don't tie
by_numbers : (a b : Received) → source_of a.ingress ≡ source_of b.ingress → a.frame < b.frame → Either IsTakenBefore a b
by_numbers a b same l = elim (cases_order a.at b.at) [
  | inl e ↦ inl (inr (e, inr (same, l)))
  | inr o ↦ elim o [ inl sooner ↦ inl (inl sooner) | inr later ↦ inr (inl later) ]
]

module _ (run : Run) (bridge cycle : ℕ) where
  -- the offers at the bridge in the cycle, by index
  abbrev placed : List Offered
  placed = filter (is_offered_in run.domain bridge cycle) (numbered run.offers)

  -- no two of them tie
  placed_apart : AllPairs (Either IsTakenBefore) (map offer_received placed)
  placed_apart =
      pairs_map (Either IsTakenBefore) offer_received placed
      (pairs_weaker (λ (a b : Offered). a.frame < b.frame) (λ (a b : Offered). Either IsTakenBefore (offer_received a) (offer_received b)) placed
      (λ a b ca cb l. by_numbers (offer_received a) (offer_received b) refl l)
      (AllPairs-filter (λ (a b : Offered). a.frame < b.frame) (is_offered_in run.domain bridge cycle) (numbered run.offers) (numbers_ascend run.offers)))

  -- they are the same as instant by instant
  module _ (some : 0 < run.domain.cycle_time) where
    -- whether an offer is of an instant of the cycle
    abbrev then : ℕ → Offered → Bool
    then offset = is_offered_at bridge (cycle * run.domain.cycle_time + offset)

    to_placed : (x : Offered) → Contains (offered_for run.domain run.offers bridge cycle) x → Contains placed x
    to_placed x h =
        let n = run.domain.cycle_time in
        let w = contains_from_below (λ offset. filter (then offset) (numbered run.offers)) n x h in
        let t = cycle * n + w.0 in
        let f = contains_from_filter (then w.0) (numbered run.offers) x w.2 in
        let both = and_parts (x.offer.bridge == bridge) (x.offer.at.0 == t) f.1 in
        let here : cycle_of run.domain x.offer.at.0 ≡ cycle =
        ap (cycle_of run.domain) (eqb-true x.offer.at.0 t both.1) ∙ cycle_is n cycle t (omega arith) (omega (arith, w.1)) in
        contains_filter (is_offered_in run.domain bridge cycle) (numbered run.offers) x f.0
        (and_from (x.offer.bridge == bridge) (cycle_of run.domain x.offer.at.0 == cycle) both.0 (eq-eqb (cycle_of run.domain x.offer.at.0) cycle here))

    from_placed : (x : Offered) → Contains placed x → Contains (offered_for run.domain run.offers bridge cycle) x
    from_placed x h =
        let n = run.domain.cycle_time in
        let u = x.offer.at.0 in
        let f = contains_from_filter (is_offered_in run.domain bridge cycle) (numbered run.offers) x h in
        let both = and_parts (x.offer.bridge == bridge) (cycle_of run.domain u == cycle) f.1 in
        let here : u / n ≡ cycle = eqb-true (cycle_of run.domain u) cycle both.1 in
        let from : cycle * n ≤ u = omega (arith, cycle_from n u, ap (λ (k : ℕ). k * n) here) in
        let upto : u < cycle * n + n = omega (arith, cycle_upto n u some, ap (λ (k : ℕ). k * n) here) in
        let offset = u - cycle * n in
        let is : u ≡ cycle * n + offset = omega (arith, from) in
        contains_below (λ k. filter (then k) (numbered run.offers)) n offset x (omega (arith, from, upto))
        (contains_filter (then offset) (numbered run.offers) x f.0
        (and_from (x.offer.bridge == bridge) (u == cycle * n + offset) both.0 (eq-eqb u (cycle * n + offset) is)))

-- ---- queues

-- a filter and a conditional list commute
kept_if : {X Y : Type 0} (f : X → Y) (p : Y → Bool) (xs : List X) (b : Bool) →
    cond b (map f (filter (λ (x : X). p (f x)) xs)) [] ≡ filter p (cond b (map f xs) [])
kept_if f p xs true = sym (filter-map f p xs)
kept_if f p xs false = refl

module _ (run : Run) (batches : Carried) (l cycle : ℕ) where
  -- the bridge that the link leaves
  abbrev here : ℕ
  here = bridge_of run.domain l

  -- what arrives at it, with the offers by index
  abbrev whole_list : List Received
  whole_list = each_below (brought run batches here cycle) (length run.domain.links) ++ map offer_received (placed run here cycle)

  -- the queue is what goes on of these
  gathered_kept : gathered_of run batches l cycle ≡ filter (goes_by run l) whole_list
  gathered_kept =
      let d = run.domain in
      let links = length d.links in
      let p = goes_by run l in
      let made = brought run batches here cycle in
      ap₂ (λ (xs ys : List Received). xs ++ ys)
      (same_below (gathered_from run batches l) (λ m. filter p (made m)) links
      (λ m h. kept_if (sent_received d m) p (batches m) (enters d m here))
      ∙ sym (filter_below p made links))
      (sym (filter-map offer_received p (placed run here cycle)))
      ∙ sym (filter-append p (each_below made links) (map offer_received (placed run here cycle)))

module _ (whole : BatchIsWholeInItsCycle) (brings : CycleBringsItsBatches) (keeps : FramesKeepTheirOrder)
    (run : Run) (cycles l cycle : ℕ) (net : Network) (compiled : IsCompiledNetwork run cycles net)
    (batches : Carried) (are : AreItsBatches run net (bridge_of run.domain l) cycle batches) where
  -- what arrives at the bridge in the cycle
  abbrev taken : List Received
  taken = received_in run net.carried (bridge_of run.domain l) cycle

  -- the list with the offers by index contains it
  placed_has : HasTheTaken taken (whole_list run batches l cycle)
  placed_has =
      let d = run.domain in
      let bridge = bridge_of d l in
      let links = length d.links in
      let made = brought run batches bridge cycle in
      let some : 0 < d.cycle_time = omega (arith, compiled.accepted.guard_short) in
      let g = gathered_has whole brings keeps run cycles cycle bridge net compiled batches are in
      let by_instant = offered_for d run.offers bridge cycle in
      let by_index = placed run bridge cycle in
      record {
        has = λ z h. elim (Contains-append_cases (each_below made links) (map offer_received by_instant) z (g.has z h)) [
          | inl k ↦ Contains-append_left (each_below made links) (map offer_received by_index) z k
          | inr k ↦
              let w = contains_from_map offer_received by_instant z k in
              Contains-append_right (each_below made links) (map offer_received by_index) z
              (subst (Contains (map offer_received by_index)) w.2
              (contains_map offer_received by_index w.0 (to_placed run bridge cycle some w.0 w.1)))
        ];
        only = λ z h. g.only z (elim (Contains-append_cases (each_below made links) (map offer_received by_index) z h) [
          | inl k ↦ Contains-append_left (each_below made links) (map offer_received by_instant) z k
          | inr k ↦
              let w = contains_from_map offer_received by_index z k in
              Contains-append_right (each_below made links) (map offer_received by_instant) z
              (subst (Contains (map offer_received by_instant)) w.2
              (contains_map offer_received by_instant w.0 (from_placed run bridge cycle some w.0 w.1)))
        ]);
        apart = with_offers run batches bridge cycle (few_links run.domain compiled.accepted)
            (batches_in_order whole brings keeps run cycles cycle bridge net compiled batches are) by_index (placed_apart run bridge cycle);
      }

  module _ (means : MeansTheShift run net.carried) (few : length run.offers < 16777216) where
    -- what a link carries has an offer's number
    carried_number : (m : ℕ) (sent : Sent) → Contains (net.carried m) sent → sent.frame < 16777216
    carried_number m sent h =
        let s = means.only sent.frame m (cycle_of run.domain sent.start.0) (record { sent = sent; is_sent = h; is_frame = refl; is_cycle = refl }) in
        omega (arith, few, s.is_frame, (numbered_member run.offers s.x s.covered.offered).2)

    -- each frame that arrives has a key
    all_keys : (x : Received) → Contains (whole_list run batches l cycle) x → HasKey (cycle * run.domain.cycle_time) x
    all_keys x h =
        let d = run.domain in
        let bridge = bridge_of d l in
        let links = length d.links in
        let made = brought run batches bridge cycle in
        let w = contains_from_below (λ offset. received_at run net.carried bridge (cycle * d.cycle_time + offset)) d.cycle_time x (placed_has.only x h) in
        let at : cycle * d.cycle_time ≤ x.at = omega (arith, received_when run net.carried bridge (cycle * d.cycle_time + w.0) x w.2) in
        elim (Contains-append_cases (each_below made links) (map offer_received (placed run bridge cycle)) x h) [
          | inl k ↦
              let r = contains_from_below made links x k in
              let there = contains_if_there (enters d r.0 bridge) (map (sent_received d r.0) (batches r.0)) x r.2 in
              let s = contains_from_map (sent_received d r.0) (batches r.0) x there.1 in
              let sent = contains_from_filter (λ (y : Sent). cycle_of d y.start.0 == cycle) (net.carried r.0) s.0
              (subst (λ (ys : List Sent). Contains ys s.0) (are r.0 there.0) s.1) in
              let same : s.0.frame ≡ x.frame = ap (λ (y : Received). y.frame) s.2 in
              record {
                from = at;
                source = omega (arith, link_source d r.0 (batches r.0) x there.1, r.1, (few_links run.domain compiled.accepted));
                number = omega (arith, same, carried_number r.0 s.0 sent.0);
              }
          | inr k ↦
              let s = contains_from_map offer_received (placed run bridge cycle) x k in
              let f = contains_from_filter (is_offered_in d bridge cycle) (numbered run.offers) s.0 s.1 in
              let same : s.0.frame ≡ x.frame = ap (λ (y : Received). y.frame) s.2 in
              record {
                from = at;
                source = omega (arith, offer_source (placed run bridge cycle) x k);
                number = omega (arith, same, few, (numbered_member run.offers s.0 f.0).2);
              }
        ]

    -- so the queue sorted by its keys is what goes on of it, in the order in which it is taken
    pub gathered_sorted : (sorted : List Received) → IsPermutation (gathered_of run batches l cycle) sorted →
        IsNonDecreasingBy (key_of (cycle * run.domain.cycle_time)) sorted → sorted ≡ filter (goes_by run l) taken
    gathered_sorted sorted moved rise =
        let all = whole_list run batches l cycle in
        let kept : IsPermutation (filter (goes_by run l) all) sorted =
        subst (λ (xs : List Received). IsPermutation xs sorted) (gathered_kept run batches l cycle) moved in
        sorted_of taken all sorted (goes_by run l)
        (cycle_in_order whole brings keeps run cycles cycle (bridge_of run.domain l) net compiled)
        placed_has kept
        (stand_by_keys (cycle * run.domain.cycle_time) sorted
        (λ x c. all_keys x (contains_from_filter (goes_by run l) all x
        (Contains-permutation sorted (filter (goes_by run l) all) x (IsPermutation-sym (filter (goes_by run l) all) sorted kept) c)).0)
        rise)

    -- and what the cycle queues
    pub gathered_queued : (sorted : List Received) →
        queued_in run net.carried l cycle ≡ flat_map (following run l) (received_in run net.carried (bridge_of run.domain l) cycle) →
        IsPermutation (gathered_of run batches l cycle) sorted →
        IsNonDecreasingBy (key_of (cycle * run.domain.cycle_time)) sorted → queued_in run net.carried l cycle ≡ flat_map (following run l) sorted
    gathered_queued sorted queues moved rise =
        queues ∙ sym (kept_queue run l taken) ∙ ap (flat_map (following run l)) (sym (gathered_sorted sorted moved rise))
