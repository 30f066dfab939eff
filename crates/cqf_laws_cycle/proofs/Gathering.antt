-- The frames of a cycle, gathered and sorted, are in the order in which they are taken.
use Rattle.std.proofs.Common.{◌≡◌, ℕ, ◌+◌, ◌*◌, ◌/◌, ◌<◌, Bool, cond, List, length, sym, refl, ap, ap₂, ◌∙◌, inl, inr, arith, subst, true, eq-eqb, eqb-true}
use Rattle.std.proofs.Common.{ne_eqb, Contains}
use Rattle.std.specs.Prelude.{[], ◌++◌, ◌==◌, ◌&&◌, map, filter}
use Rattle.std.proofs.lemmas.Bool.{and_from, and_left, and_parts, cases_Bool, cond-false, cond-true}
use Rattle.std.proofs.lemmas.List.Elements.{Contains-append_cases, filter-append}
use Rattle.cqf_lists.specs.Lists.{each_below}
use Rattle.cqf_lists.proofs.EachBelow.{below_plus, contains_from_below, filter_below, filter_each, filter_none, map_below, none_below, same_below}
use Rattle.cqf_lists.proofs.Filters.{filter-map, filter_alike, filter_weaker}
use Rattle.cqf_lists.proofs.Keys.{by_key}
use Rattle.cqf_lists.proofs.Made.{contains_if_there}
use Rattle.cqf_lists.proofs.Members.{contains_filter, contains_from_filter, contains_from_map}
use Rattle.cqf_lists.proofs.Picked.{filter_one}
use Rattle.cqf_units.proofs.Cycles.{cycle_from, cycle_is, cycle_upto}
use Rattle.cqf_model.specs.declared.frames.Backed.{Backed}
use Rattle.cqf_model.specs.declared.frames.Background.{Background}
use Rattle.cqf_model.specs.declared.frames.Offer.{Offer}
use Rattle.cqf_model.specs.declared.frames.Offered.{Offered}
use Rattle.cqf_model.specs.declared.frames.Sent.{Sent}
use Rattle.cqf_model.specs.Domain.{Domain, bridge_of, cycle_of, enters, leaves}
use Rattle.cqf_model.specs.Network.{backed_at, backed_frame, backed_in, is_backed_at, numbered_background}
use Rattle.cqf_model.specs.Run.{Run}
use Rattle.cqf_model.specs.Policing.{Carried, Received, is_offered_at, numbered, offer_received, offered_at, received_at, relayed_at, sent_received, whole_at}
use Rattle.cqf_model.proofs.Links.{leaves_its_bridge}
use Rattle.cqf_laws_cycle.specs.BridgeCycle.{received_in}
use Rattle.cqf_laws_cycle.specs.Gathered.{AreWholeIn, IsInOrderOf, backed_for, gathered_in, is_backed_for, is_backed_in, is_for_link, is_offered_in}
use Rattle.cqf_laws_cycle.specs.Gathered.{offered_for}

-- a stable sort by instant of the members of one cycle is, instant by instant, what was gathered
pub sorted_by_instant : {A : Type 0} (at : A → ℕ) (cycle_time cycle : ℕ) (gathered sorted : List A) → 0 < cycle_time →
    ((x : A) → Contains gathered x → at x / cycle_time ≡ cycle) → IsInOrderOf at gathered sorted →
    sorted ≡ each_below (λ offset. filter (λ x. at x == cycle * cycle_time + offset) gathered) cycle_time
sorted_by_instant {A} at cycle_time cycle gathered sorted some whole is =
    let first = cycle * cycle_time in
    let by = λ (t : ℕ). filter (λ (x : A). at x == t) sorted in
    keyed
    ∙ below_plus by first cycle_time
    ∙ ap (λ (xs : List A). xs ++ each_below (λ offset. by (first + offset)) cycle_time) sooner
    ∙ same_below (λ offset. by (first + offset)) (λ offset. filter (λ x. at x == first + offset) gathered) cycle_time (λ offset l. is.stable (first + offset))
  where
    -- what is sorted was gathered, so it is of the cycle
    of_cycle : (x : A) → Contains sorted x → at x / cycle_time ≡ cycle
    of_cycle x h =
        let same = λ (y : A). at y == at x in
        let own : Contains (filter same sorted) x = contains_filter same sorted x h (eq-eqb (at x) (at x) refl) in
        whole x (contains_from_filter same gathered x (subst (λ (xs : List A). Contains xs x) (is.stable (at x)) own)).0

    -- it is the sequence of its instants
    keyed : sorted ≡ each_below (λ t. filter (λ (x : A). at x == t) sorted) (cycle * cycle_time + cycle_time)
    keyed =
        by_key at (cycle * cycle_time + cycle_time) sorted is.in_order
        (λ x h. omega (arith, cycle_upto cycle_time (at x) some, ap (λ (n : ℕ). n * cycle_time) (of_cycle x h)))

    -- none of them is before the cycle
    sooner : each_below (λ t. filter (λ (x : A). at x == t) sorted) (cycle * cycle_time) ≡ []
    sooner =
        none_below (λ t. filter (λ (x : A). at x == t) sorted) (cycle * cycle_time) (λ t l. filter_none (λ (x : A). at x == t) sorted (λ x h.
        ne_eqb (at x) t (λ e. omega (arith, e, l, cycle_from cycle_time (at x), ap (λ (n : ℕ). n * cycle_time) (of_cycle x h)))))

-- what a test picks in a cycle, restricted to one instant
pub picked_then : {A : Type 0} (mine : A → Bool) (at : A → ℕ) (cycle_time cycle t : ℕ) (xs : List A) → t / cycle_time ≡ cycle →
    filter (λ x. at x == t) (filter (λ x. mine x && (at x / cycle_time == cycle)) xs) ≡ filter (λ x. mine x && (at x == t)) xs
picked_then {A} mine at cycle_time cycle t xs here =
    let then = λ (x : A). mine x && (at x == t) in
    let in_cycle = λ (x : A). mine x && (at x / cycle_time == cycle) in
    let when = λ (x : A). at x == t in
    let fewer : filter then xs ≡ filter then (filter in_cycle xs) =
    filter_weaker then in_cycle xs (λ x h k.
    let w = and_parts (mine x) (at x == t) k in
    and_from (mine x) (at x / cycle_time == cycle) w.0 (eq-eqb (at x / cycle_time) cycle (ap (λ (u : ℕ). u / cycle_time) (eqb-true (at x) t w.1) ∙ here))) in
    let same : filter when (filter in_cycle xs) ≡ filter then (filter in_cycle xs) =
    filter_alike when then (filter in_cycle xs) (λ x h.
    let w = and_parts (mine x) (at x / cycle_time == cycle) (contains_from_filter in_cycle xs x h).1 in
    sym (ap (λ (b : Bool). b && (at x == t)) w.0)) in
    same ∙ sym fewer

-- so a stable sort by instant of what it picks in a cycle is what it picks instant by instant
picked_in_order : {A : Type 0} (mine : A → Bool) (at : A → ℕ) (cycle_time cycle : ℕ) (xs sorted : List A) → 0 < cycle_time →
    IsInOrderOf at (filter (λ x. mine x && (at x / cycle_time == cycle)) xs) sorted →
    sorted ≡ each_below (λ offset. filter (λ x. mine x && (at x == cycle * cycle_time + offset)) xs) cycle_time
picked_in_order {A} mine at cycle_time cycle xs sorted some is =
    let in_cycle = λ (x : A). mine x && (at x / cycle_time == cycle) in
    let first = cycle * cycle_time in
    sorted_by_instant at cycle_time cycle (filter in_cycle xs) sorted some
    (λ x h. eqb-true (at x / cycle_time) cycle (and_parts (mine x) (at x / cycle_time == cycle) (contains_from_filter in_cycle xs x h).1).1)
    is
    ∙ same_below (λ offset. filter (λ x. at x == first + offset) (filter in_cycle xs))
    (λ offset. filter (λ x. mine x && (at x == first + offset)) xs) cycle_time
    (λ offset l. picked_then mine at cycle_time cycle (first + offset) xs (cycle_is cycle_time cycle (first + offset) (omega arith) (omega (arith, l))))

-- the offers at a bridge in a cycle, in order
pub offers_in_order : (d : Domain) (offers : List Offer) (bridge cycle : ℕ) (sorted : List Offered) → 0 < d.cycle_time →
    IsInOrderOf (λ (x : Offered). x.offer.at.0) (filter (is_offered_in d bridge cycle) (numbered offers)) sorted → sorted ≡ offered_for d offers bridge cycle
offers_in_order d offers bridge cycle sorted some is =
    picked_in_order (λ (x : Offered). x.offer.bridge == bridge) (λ (x : Offered). x.offer.at.0) d.cycle_time cycle (numbered offers) sorted some is

-- and the background frames of a bridge
pub background_in_order : (d : Domain) (background : List Background) (bridge cycle : ℕ) (sorted : List Backed) → 0 < d.cycle_time →
    IsInOrderOf (λ (x : Backed). x.background.at.0) (filter (is_backed_in d bridge cycle) (numbered_background background)) sorted →
    sorted ≡ backed_for d background bridge cycle
background_in_order d background bridge cycle sorted some is =
    picked_in_order (λ (x : Backed). leaves d x.background.link bridge) (λ (x : Backed). x.background.at.0) d.cycle_time cycle
    (numbered_background background) sorted some is

-- among a bridge's background frames at an instant, those of a link that leaves it
link_then : (d : Domain) (background : List Background) (l t : ℕ) → l < length d.links →
    filter (is_for_link l) (filter (is_backed_for d (bridge_of d l) t) (numbered_background background)) ≡ filter (is_backed_at l t)
    (numbered_background background)
link_then d background l t h =
    let all = numbered_background background in
    let bridge = bridge_of d l in
    let for_bridge = is_backed_for d bridge t in
    let fewer : filter (is_backed_at l t) all ≡ filter (is_backed_at l t) (filter for_bridge all) =
    filter_weaker (is_backed_at l t) for_bridge all (λ x c k.
    let w = and_parts (x.background.link == l) (x.background.at.0 == t) k in
    and_from (leaves d x.background.link bridge) (x.background.at.0 == t)
    (ap (λ (m : ℕ). leaves d m bridge) (eqb-true x.background.link l w.0) ∙ leaves_its_bridge d l h) w.1) in
    let same : filter (is_for_link l) (filter for_bridge all) ≡ filter (is_backed_at l t) (filter for_bridge all) =
    filter_alike (is_for_link l) (is_backed_at l t) (filter for_bridge all) (λ x c.
    let w = and_parts (leaves d x.background.link bridge) (x.background.at.0 == t) (contains_from_filter for_bridge all x c).1 in
    sym (and_true (x.background.link == l) (x.background.at.0 == t) w.1)) in
    same ∙ sym fewer
  where
    -- a conjunction with a true test is the other test
    and_true : (a b : Bool) → b ≡ true → (a && b) ≡ a
    and_true a b e = elim (cases_Bool a) [ inl t ↦ and_from a b t e ∙ sym t | inr f ↦ and_left a b f ∙ sym f ]

-- each port gets its own of a bridge's background frames
pub ports_background : (d : Domain) (background : List Background) (l cycle : ℕ) → l < length d.links →
    map backed_frame (filter (is_for_link l) (backed_for d background (bridge_of d l) cycle)) ≡ backed_in d background l cycle
ports_background d background l cycle h =
    let first = cycle * d.cycle_time in
    let each = λ (offset : ℕ). filter (is_backed_for d (bridge_of d l) (first + offset)) (numbered_background background) in
    let kept = λ (offset : ℕ). filter (is_for_link l) (each offset) in
    ap (map backed_frame) (filter_below (is_for_link l) each d.cycle_time)
    ∙ map_below backed_frame kept d.cycle_time
    ∙ same_below (λ offset. map backed_frame (kept offset)) (λ offset. backed_at background l (first + offset)) d.cycle_time
    (λ offset k. ap (map backed_frame) (link_then d background l (first + offset) h))

module _ (run : Run) (batches : Carried) (bridge cycle : ℕ) where
  -- among what a link brings, that of one instant
  relayed_then : (t m : ℕ) → filter (λ (x : Received). x.at == t)
      (cond (enters run.domain m bridge) (map (sent_received run.domain m) (batches m)) []) ≡ relayed_at run.domain batches bridge t m
  relayed_then t m =
      let d = run.domain in
      let comes = λ (x : Received). x.at == t in
      let frames = map (sent_received d m) (batches m) in
      let then = map (sent_received d m) (filter (λ (sent : Sent). whole_at d m sent == t) (batches m)) in
      elim (cases_Bool (enters d m bridge)) [
        | inl here ↦
            ap (filter comes) (cond-true (enters d m bridge) frames [] here)
            ∙ filter-map (sent_received d m) comes (batches m)
            ∙ sym (cond-true (enters d m bridge) then [] here)
        | inr passes ↦ ap (filter comes) (cond-false (enters d m bridge) frames [] passes) ∙ sym (cond-false (enters d m bridge) then [] passes)
      ]

  -- among the cycle's offers, those of one instant
  offered_then : (offset : ℕ) → offset < run.domain.cycle_time →
      filter (λ (x : Received). x.at == cycle * run.domain.cycle_time + offset)
      (map offer_received (offered_for run.domain run.offers bridge cycle)) ≡ offered_at run.offers bridge (cycle * run.domain.cycle_time + offset)
  offered_then offset inside =
      let d = run.domain in
      let first = cycle * d.cycle_time in
      let t = first + offset in
      let at = λ (k : ℕ). filter (is_offered_at bridge (first + k)) (numbered run.offers) in
      let then = λ (x : Offered). x.offer.at.0 == t in
      let bears : (k : ℕ) (x : Offered) → Contains (at k) x → x.offer.at.0 ≡ first + k =
      λ k x c. eqb-true x.offer.at.0 (first + k)
      (and_parts (x.offer.bridge == bridge) (x.offer.at.0 == first + k)
      (contains_from_filter (is_offered_at bridge (first + k)) (numbered run.offers) x c).1).1 in
      let all : filter then (at offset) ≡ at offset = filter_each then (at offset) (λ x c. eq-eqb x.offer.at.0 t (bears offset x c)) in
      filter-map offer_received (λ (x : Received). x.at == t) (offered_for d run.offers bridge cycle)
      ∙ ap (map offer_received) (filter_one then at d.cycle_time offset inside
      (λ k x differ c. ne_eqb x.offer.at.0 t (λ e. differ (omega (arith, bears k x c, e)))) ∙ all)

  -- among all that is gathered, what arrives at one instant of the cycle
  gathered_then : (offset : ℕ) → offset < run.domain.cycle_time →
      filter (λ (x : Received). x.at == cycle * run.domain.cycle_time + offset) (gathered_in run batches bridge cycle) ≡ received_at run batches bridge
      (cycle * run.domain.cycle_time + offset)
  gathered_then offset inside =
      let d = run.domain in
      let links = length d.links in
      let t = cycle * d.cycle_time + offset in
      let comes = λ (x : Received). x.at == t in
      let brought = λ (m : ℕ). cond (enters d m bridge) (map (sent_received d m) (batches m)) [] in
      let relayed : filter comes (each_below brought links) ≡ each_below (relayed_at d batches bridge t) links =
      filter_below comes brought links ∙ same_below (λ m. filter comes (brought m)) (relayed_at d batches bridge t) links (λ m l. relayed_then t m) in
      filter-append comes (each_below brought links) (map offer_received (offered_for d run.offers bridge cycle))
      ∙ ap₂ (λ (xs ys : List Received). xs ++ ys) relayed (offered_then offset inside)

  -- what is gathered is of the cycle
  gathered_when : AreWholeIn run.domain batches bridge cycle → (x : Received) → Contains (gathered_in run batches bridge cycle) x →
      cycle_of run.domain x.at ≡ cycle
  gathered_when whole x h =
      let d = run.domain in
      let brought = λ (m : ℕ). cond (enters d m bridge) (map (sent_received d m) (batches m)) [] in
      let offered = offered_for d run.offers bridge cycle in
      elim (Contains-append_cases (each_below brought (length d.links)) (map offer_received offered) x h) [
        | inl k ↦
            let w = contains_from_below brought (length d.links) x k in
            let there = contains_if_there (enters d w.0 bridge) (map (sent_received d w.0) (batches w.0)) x w.2 in
            let sent = contains_from_map (sent_received d w.0) (batches w.0) x there.1 in
            ap (λ (y : Received). cycle_of d y.at) (sym sent.2) ∙ whole w.0 sent.0 there.0 sent.1
        | inr k ↦
            let w = contains_from_map offer_received offered x k in
            let first = cycle * d.cycle_time in
            let v = contains_from_below (λ offset. filter (is_offered_at bridge (first + offset)) (numbered run.offers)) d.cycle_time w.0 w.1 in
            let t = first + v.0 in
            let here : cycle_of d t ≡ cycle = cycle_is d.cycle_time cycle t (omega arith) (omega (arith, v.1)) in
            let at : w.0.offer.at.0 ≡ t =
            eqb-true w.0.offer.at.0 t (and_parts (w.0.offer.bridge == bridge) (w.0.offer.at.0 == t)
            (contains_from_filter (is_offered_at bridge t) (numbered run.offers) w.0 v.2).1).1 in
            ap (λ (y : Received). cycle_of d y.at) (sym w.2) ∙ ap (cycle_of d) at ∙ here
      ]

  -- sorted, it is what is taken
  pub sorted_is_taken : (sorted : List Received) → 0 < run.domain.cycle_time → AreWholeIn run.domain batches bridge cycle →
      IsInOrderOf (λ (x : Received). x.at) (gathered_in run batches bridge cycle) sorted → sorted ≡ received_in run batches bridge cycle
  sorted_is_taken sorted some whole is =
      let d = run.domain in
      let first = cycle * d.cycle_time in
      sorted_by_instant (λ (x : Received). x.at) d.cycle_time cycle (gathered_in run batches bridge cycle) sorted some (gathered_when whole) is
      ∙ same_below (λ offset. filter (λ (x : Received). x.at == first + offset) (gathered_in run batches bridge cycle))
      (λ offset. received_at run batches bridge (first + offset)) d.cycle_time gathered_then
