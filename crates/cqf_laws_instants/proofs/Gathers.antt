-- What is gathered for a bridge in a cycle is what it takes, and no two of its frames tie.
use Rattle.std.proofs.Common.{◌≡◌, ℕ, ◌+◌, ◌-◌, ◌*◌, ◌/◌, ◌<◌, ◌≤◌, Bool, true, cond, List, length, inl, inr, sym, ap, arith, subst, AllPairs, Contains}
use Rattle.std.proofs.Common.{eq-eqb}
use Rattle.std.specs.Prelude.{[], ◌++◌, ◌==◌, map, filter}
use Rattle.std.specs.List.Sorted.{IsPermutation}
use Rattle.std.proofs.lemmas.Bool.{cond-true}
use Rattle.std.proofs.lemmas.List.Elements.{Contains-append_cases, Contains-append_left, Contains-append_right}
use Rattle.std.proofs.lemmas.List.Kept.{AllPairs-filter}
use Rattle.cqf_lists.specs.Lists.{each_below}
use Rattle.cqf_lists.proofs.EachBelow.{contains_below, contains_from_below, map_below}
use Rattle.cqf_lists.proofs.Made.{contains_if, contains_if_there}
use Rattle.cqf_lists.proofs.Members.{contains_filter, contains_from_filter, contains_from_map, contains_map}
use Rattle.cqf_lists.proofs.Pairs.{pairs_append, pairs_below, pairs_if, pairs_weaker}
use Rattle.cqf_units.proofs.Cycles.{cycle_from, cycle_upto}
use Rattle.cqf_model.specs.declared.frames.Offered.{Offered}
use Rattle.cqf_model.specs.declared.frames.Sent.{Sent}
use Rattle.cqf_model.specs.Domain.{cycle_of, enters}
use Rattle.cqf_model.specs.Network.{Network, compiled_lists}
use Rattle.cqf_model.specs.Run.{Run}
use Rattle.cqf_model.specs.Policing.{Carried, Received, is_offered_at, numbered, offer_received, offered_at, received_at, relayed_at, sent_received, whole_at}
use Rattle.cqf_model.proofs.Coming.{offered_when}
use Rattle.cqf_model.proofs.Represented.{few_links}
use Rattle.cqf_laws_cycle.specs.BridgeCycle.{BatchIsWholeInItsCycle, CycleBringsItsBatches, FramesKeepTheirOrder, IsCompiledNetwork, received_in}
use Rattle.cqf_laws_cycle.specs.Gathered.{AreWholeIn, gathered_in, offered_for}
use Rattle.cqf_laws_instants.specs.TakenLaws.{AreItsBatches, IsTakenBefore, StandAsTaken, source_of}
use Rattle.cqf_laws_instants.proofs.Ordered.{Either, sorted_is_one}
use Rattle.cqf_laws_instants.proofs.Order.{by_sources, in_one_cycle, link_in_order, link_source, offer_source, offers_at_in_order, one_way}

-- frames in the order in which they are taken don't tie
pub loose : (xs : List Received) → AllPairs IsTakenBefore xs → AllPairs (Either IsTakenBefore) xs
loose xs all = pairs_weaker IsTakenBefore (Either IsTakenBefore) xs (λ a b ca cb l. inl l) all

module _ (run : Run) (batches : Carried) (bridge cycle : ℕ) where
  -- what a link brings
  abbrev pub brought : ℕ → List Received
  brought m = cond (enters run.domain m bridge) (map (sent_received run.domain m) (batches m)) []

  -- the instants of the cycle
  abbrev instant : ℕ → ℕ
  instant offset = cycle * run.domain.cycle_time + offset

  -- the offers of the cycle
  abbrev offered : List Received
  offered = map offer_received (offered_for run.domain run.offers bridge cycle)

  -- instant by instant
  offered_each : offered ≡ each_below (λ offset. offered_at run.offers bridge (instant offset)) run.domain.cycle_time
  offered_each =
      map_below offer_received (λ offset. filter (is_offered_at bridge (instant offset)) (numbered run.offers)) run.domain.cycle_time

  -- what is taken was gathered
  pub taken_was_gathered : (x : Received) → Contains (received_in run batches bridge cycle) x → Contains (gathered_in run batches bridge cycle) x
  taken_was_gathered x h =
      let d = run.domain in
      let links = length d.links in
      let w = contains_from_below (λ offset. received_at run batches bridge (instant offset)) d.cycle_time x h in
      let t = instant w.0 in
      elim (Contains-append_cases (each_below (relayed_at d batches bridge t) links) (offered_at run.offers bridge t) x w.2) [
        | inl k ↦
            let r = contains_from_below (relayed_at d batches bridge t) links x k in
            let whole = λ (sent : Sent). whole_at d r.0 sent == t in
            let there = contains_if_there (enters d r.0 bridge) (map (sent_received d r.0) (filter whole (batches r.0))) x r.2 in
            let s = contains_from_map (sent_received d r.0) (filter whole (batches r.0)) x there.1 in
            let mapped : Contains (map (sent_received d r.0) (batches r.0)) x =
            subst (Contains (map (sent_received d r.0) (batches r.0))) s.2
            (contains_map (sent_received d r.0) (batches r.0) s.0 (contains_from_filter whole (batches r.0) s.0 s.1).0) in
            Contains-append_left (each_below brought links) offered x
            (contains_below brought links r.0 x r.1
            (subst (λ (xs : List Received). Contains xs x) (sym (cond-true (enters d r.0 bridge) (map (sent_received d r.0) (batches r.0)) [] there.0)) mapped))
        | inr k ↦
            Contains-append_right (each_below brought links) offered x
            (subst (λ (xs : List Received). Contains xs x) (sym offered_each)
            (contains_below (λ offset. offered_at run.offers bridge (instant offset)) d.cycle_time w.0 x w.1 k))
      ]

  -- and what was gathered is taken
  pub gathered_is_taken : 0 < run.domain.cycle_time → AreWholeIn run.domain batches bridge cycle → (x : Received) →
      Contains (gathered_in run batches bridge cycle) x → Contains (received_in run batches bridge cycle) x
  gathered_is_taken some whole_in x h =
      let d = run.domain in
      let links = length d.links in
      elim (Contains-append_cases (each_below brought links) offered x h) [
        | inl k ↦
            let r = contains_from_below brought links x k in
            let there = contains_if_there (enters d r.0 bridge) (map (sent_received d r.0) (batches r.0)) x r.2 in
            let s = contains_from_map (sent_received d r.0) (batches r.0) x there.1 in
            let u = whole_at d r.0 s.0 in
            let here : u / d.cycle_time ≡ cycle = whole_in r.0 s.0 there.0 s.1 in
            let from : cycle * d.cycle_time ≤ u = omega (arith, cycle_from d.cycle_time u, ap (λ (n : ℕ). n * d.cycle_time) here) in
            let upto : u < cycle * d.cycle_time + d.cycle_time = omega (arith, cycle_upto d.cycle_time u some, ap (λ (n : ℕ). n * d.cycle_time) here) in
            let offset = u - cycle * d.cycle_time in
            let t = instant offset in
            let is : u ≡ t = omega (arith, from) in
            let whole = λ (sent : Sent). whole_at d r.0 sent == t in
            let mapped : Contains (map (sent_received d r.0) (filter whole (batches r.0))) x =
            subst (Contains (map (sent_received d r.0) (filter whole (batches r.0)))) s.2
            (contains_map (sent_received d r.0) (filter whole (batches r.0)) s.0 (contains_filter whole (batches r.0) s.0 s.1 (eq-eqb u t is))) in
            let at : Contains (relayed_at d batches bridge t r.0) x =
            subst (λ (xs : List Received). Contains xs x)
            (sym (cond-true (enters d r.0 bridge) (map (sent_received d r.0) (filter whole (batches r.0))) [] there.0)) mapped in
            contains_below (λ offset. received_at run batches bridge (instant offset)) d.cycle_time offset x (omega (arith, from, upto))
            (Contains-append_left (each_below (relayed_at d batches bridge t) links) (offered_at run.offers bridge t) x
            (contains_below (relayed_at d batches bridge t) links r.0 x r.1 at))
        | inr k ↦
            let w = contains_from_below (λ offset. offered_at run.offers bridge (instant offset)) d.cycle_time x
            (subst (λ (xs : List Received). Contains xs x) offered_each k) in
            contains_below (λ offset. received_at run batches bridge (instant offset)) d.cycle_time w.0 x w.1
            (Contains-append_right (each_below (relayed_at d batches bridge (instant w.0)) links) (offered_at run.offers bridge (instant w.0)) x w.2)
      ]

  module _ (few : length run.domain.links ≤ 4096)
      (ordered : (m : ℕ) → enters run.domain m bridge ≡ true → AllPairs (λ (a b : Sent). whole_at run.domain m a < whole_at run.domain m b) (batches m)) where
    -- no two frames tie among what the links bring and offers without ties
    pub with_offers : (offers : List Offered) → AllPairs (Either IsTakenBefore) (map offer_received offers) →
        AllPairs (Either IsTakenBefore) (each_below brought (length run.domain.links) ++ map offer_received offers)
    with_offers offers apart =
        let d = run.domain in
        let links = length d.links in
        let R = Either IsTakenBefore in
        let source : (m : ℕ) (x : Received) → Contains (brought m) x → source_of x.ingress ≡ m =
        λ m x c. link_source d m (batches m) x (contains_if (enters d m bridge) (map (sent_received d m) (batches m)) x c) in
        pairs_append R (each_below brought links) (map offer_received offers)
        (pairs_below R brought links
        (λ m l. pairs_if R (enters d m bridge) (map (sent_received d m) (batches m))
        (λ here. loose (map (sent_received d m) (batches m)) (link_in_order d m (batches m) (ordered m here))))
        (λ m n x y less l cx cy. by_sources x y (omega (arith, less, source m x cx, source n y cy))))
        apart
        (λ x y cx cy.
        let w = contains_from_below brought links x cx in
        by_sources x y (omega (arith, few, w.1, source w.0 x w.2, offer_source offers y cy)))

    -- so no two gathered frames tie
    pub gathered_apart : AllPairs (Either IsTakenBefore) (gathered_in run batches bridge cycle)
    gathered_apart =
        let d = run.domain in
        with_offers (offered_for d run.offers bridge cycle)
        (subst (AllPairs (Either IsTakenBefore)) (sym offered_each)
        (loose (each_below (λ offset. offered_at run.offers bridge (instant offset)) d.cycle_time)
        (pairs_below IsTakenBefore (λ offset. offered_at run.offers bridge (instant offset)) d.cycle_time
        (λ offset l. offers_at_in_order run.offers bridge (instant offset))
        (λ j k x y less l cx cy. inl (omega (arith, less, offered_when run.offers bridge (instant j) x cx, offered_when run.offers bridge (instant k) y cy))))))

-- a list contains what is taken in a cycle, and no two of its frames tie
pub record HasTheTaken (taken gathered : List Received) : Type 0 where
  pub has : (z : Received) → Contains taken z → Contains gathered z
  pub only : (z : Received) → Contains gathered z → Contains taken z
  pub apart : AllPairs (Either IsTakenBefore) gathered

-- by any sort, what a test keeps of such a list is what it keeps of what is taken
pub sorted_of : (taken gathered sorted : List Received) (passes : Received → Bool) → AllPairs IsTakenBefore taken → HasTheTaken taken gathered →
    IsPermutation (filter passes gathered) sorted → StandAsTaken sorted → sorted ≡ filter passes taken
sorted_of taken gathered sorted passes ordered h moved none =
    sorted_is_one IsTakenBefore one_way (filter passes taken) sorted (filter passes gathered)
    (AllPairs-filter IsTakenBefore passes taken ordered)
    (λ z c. let w = contains_from_filter passes taken z c in contains_filter passes gathered z (h.has z w.0) w.1)
    (λ z c. let w = contains_from_filter passes gathered z c in contains_filter passes taken z (h.only z w.0) w.1)
    (AllPairs-filter (Either IsTakenBefore) passes gathered h.apart)
    moved none

module _ (whole : BatchIsWholeInItsCycle) (brings : CycleBringsItsBatches) (keeps : FramesKeepTheirOrder)
    (run : Run) (cycles cycle bridge : ℕ) (net : Network) (compiled : IsCompiledNetwork run cycles net) where
  -- what arrives at a bridge in a cycle is in order
  pub cycle_in_order : AllPairs IsTakenBefore (received_in run net.carried bridge cycle)
  cycle_in_order =
      in_one_cycle run net.carried bridge (few_links run.domain compiled.accepted)
      (λ m. keeps run (compiled_lists run.domain) cycles m net compiled.legal) cycle

  module _ (batches : Carried) (are : AreItsBatches run net bridge cycle batches) where
    -- the frames of each link arrive fully one after the other
    pub batches_in_order : (m : ℕ) → enters run.domain m bridge ≡ true →
        AllPairs (λ (a b : Sent). whole_at run.domain m a < whole_at run.domain m b) (batches m)
    batches_in_order m here =
        let R = λ (a b : Sent). whole_at run.domain m a < whole_at run.domain m b in
        subst (AllPairs R) (sym (are m here))
        (AllPairs-filter R (λ (sent : Sent). cycle_of run.domain sent.start.0 == cycle) (net.carried m)
        (keeps run (compiled_lists run.domain) cycles m net compiled.legal))

    -- what is gathered is what is taken
    pub gathered_has : HasTheTaken (received_in run net.carried bridge cycle) (gathered_in run batches bridge cycle)
    gathered_has =
        let d = run.domain in
        let some : 0 < d.cycle_time = omega (arith, compiled.accepted.guard_short) in
        let same : received_in run batches bridge cycle ≡ received_in run net.carried bridge cycle = brings run cycles cycle bridge net batches compiled are in
        let whole_in : AreWholeIn d batches bridge cycle =
        λ m sent here c. whole run cycles cycle m net sent compiled (subst (λ (xs : List Sent). Contains xs sent) (are m here) c) in
        record {
          has = λ z h. taken_was_gathered run batches bridge cycle z (subst (λ (xs : List Received). Contains xs z) (sym same) h);
          only = λ z h. subst (λ (xs : List Received). Contains xs z) same (gathered_is_taken run batches bridge cycle some whole_in z h);
          apart = gathered_apart run batches bridge cycle (few_links run.domain compiled.accepted) batches_in_order;
        }

    -- so by any sort it is in that order
    pub sorted_taken : (passes : Received → Bool) (sorted : List Received) →
        IsPermutation (filter passes (gathered_in run batches bridge cycle)) sorted → StandAsTaken sorted →
        sorted ≡ filter passes (received_in run net.carried bridge cycle)
    sorted_taken passes sorted moved none =
        sorted_of (received_in run net.carried bridge cycle) (gathered_in run batches bridge cycle) sorted passes cycle_in_order gathered_has moved none
