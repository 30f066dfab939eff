-- The frames that a cycle of a run brings to a bridge.
use Rattle.std.proofs.Common.{◌≡◌, ◌+◌, ◌*◌, ◌≤◌, ◌<◌, ℕ, suc, Bool, true, false, List, [], ◌∷◌, ◌++◌, ◌∙◌, inl, inr}
use Rattle.std.proofs.Common.{sym, ap, refl, arith, length, map, filter, flat_map, get_or, AllPairs, Contains, Some}
use Rattle.std.proofs.Common.{subst, eq-eqb, eqb-true, mul-le-mul_right}
use Rattle.std.specs.Prelude.{◌==◌, if◌then◌else◌, replicate, zero}
use Rattle.std.specs.List.Sorted.{IsNonDecreasingBy}
use Rattle.std.proofs.lemmas.Bool.{and_parts, cases_Bool, cases_lt, cond-false, cond-true, ne_eqb, true≢false}
use Rattle.std.proofs.lemmas.List.{map-append}
use Rattle.std.proofs.lemmas.List.Concat.{flat_map-append}
use Rattle.std.proofs.lemmas.List.Elements.{Contains-append_cases}
use Rattle.cqf_lists.specs.Lists.{each_below}
use Rattle.cqf_lists.proofs.EachBelow.{contains_from_below, filter_none, same_below}
use Rattle.cqf_lists.proofs.Keys.{by_key}
use Rattle.cqf_lists.proofs.Made.{contains_if_there, flat_map_same}
use Rattle.cqf_lists.proofs.Members.{contains_filter, contains_from_filter, contains_from_flat, contains_from_map, contains_one}
use Rattle.cqf_lists.proofs.Pairs.{pairs_below, pairs_from_map, pairs_none, pairs_one}
use Rattle.cqf_units.proofs.Cycles.{cycle_is, cycle_upto}
use Rattle.cqf_units.specs.Timing.{time_of}
use Rattle.cqf_model.specs.declared.frames.Dropped.{Dropped}
use Rattle.cqf_model.specs.declared.frames.Offered.{Offered}
use Rattle.cqf_model.specs.declared.frames.Sent.{Sent}
use Rattle.cqf_model.specs.declared.topology.Row.{Row}
use Rattle.cqf_model.specs.Domain.{Domain, cycle_of, delay_of, enters, octet_time_of}
use Rattle.cqf_model.specs.Network.{queued_to}
use Rattle.cqf_model.specs.Run.{Run}
use Rattle.cqf_model.specs.Table.{goes_on, row_of, table_of}
use Rattle.cqf_model.specs.Policing.{AtEdge, Policed, Received, Relayed, is_offered_at, numbered, offer_received, police_all, sent_received, whole_at}
use Rattle.cqf_model.proofs.LinkEnds.{enters_inside}
use Rattle.cqf_model.proofs.Policing.{police_same}
use Rattle.cqf_laws_cycle.specs.BridgeCycle.{received_in}
use Rattle.cqf_laws_cycle.specs.Gathered.{AreWholeIn, DropsAreByFrame, FramesAreTakenInOrder, IsInOrderOf, dropped_of, gathered_in, offered_for}
use Rattle.cqf_bridge.specs.Batch.{LinkBatch}
use Rattle.cqf_bridge.specs.PortRecord.{PortRecord, with_frames}
use Rattle.cqf_bridge.specs.Receiving.{AreBatchesOf, carried_by, verdicts_in}
use Rattle.cqf_bridge.specs.Taking.{CanGather, HasPoliced, MayBeTaken, TakesCycle, gathered_by, policed_by}
use Rattle.cqf_bridge.specs.declared.cycle_gate.KeptGate.{KeptGate}
use Rattle.cqf_bridge.proofs.Coming.{batch_enters}
use Rattle.cqf_bridge.proofs.TakenCycle.{table_held}

-- flat maps over lists end to end
flat_below : {X Y : Type 0} (g : X → List Y) (f : ℕ → List X) (n : ℕ) → flat_map g (each_below f n) ≡ each_below (λ k. flat_map g (f k)) n
flat_below g f zero = refl
flat_below {X} {Y} g f (suc n) =
    flat_map-append g (each_below f n) (f n) ∙ ap (λ (ys : List Y). ys ++ flat_map g (f n)) (flat_below g f n)

-- among batches, those of a link have what the link brings
of_link : (m : ℕ) (batches : List LinkBatch) →
    flat_map (λ (b : LinkBatch). b.frames) (filter (λ (b : LinkBatch). b.link == m) batches) ≡ carried_by batches m
of_link m [] = refl
of_link m (b ∷ batches) = by (b.link == m) (of_link m batches)
  where
    by : (t : Bool) → flat_map (λ (x : LinkBatch). x.frames) (filter (λ (x : LinkBatch). x.link == m) batches) ≡ carried_by batches m →
        flat_map (λ (x : LinkBatch). x.frames) (if t then b ∷ filter (λ (x : LinkBatch). x.link == m) batches
        else filter (λ (x : LinkBatch). x.link == m) batches)
        ≡ (if t then b.frames else []) ++ carried_by batches m
    by true rest = ap (λ (ys : List Sent). b.frames ++ ys) rest
    by false rest = rest

-- mapping lists end to end
mapped_flat : {X Y Z : Type 0} (f : Y → Z) (g : X → List Y) (xs : List X) → flat_map (λ x. map f (g x)) xs ≡ map f (flat_map g xs)
mapped_flat f g [] = refl
mapped_flat {X} {Y} {Z} f g (x ∷ xs) = ap (λ (zs : List Z). map f (g x) ++ zs) (mapped_flat f g xs) ∙ sym (map-append f (g x) (flat_map g xs))

-- selected numbers ascend
picked_ascend : (test : ℕ → Bool) (n : ℕ) → AllPairs (λ (a b : ℕ). a < b) (each_below (λ k. if test k then k ∷ [] else []) n)
picked_ascend test n =
    pairs_below (λ (a b : ℕ). a < b) (λ k. if test k then k ∷ [] else []) n (λ k inside. one (test k) k)
    (λ j k x y less inside of_j of_k.
    let a = contains_one j x (contains_if_there (test j) (j ∷ []) x of_j).1 in
    let b = contains_one k y (contains_if_there (test k) (k ∷ []) y of_k).1 in
    omega (arith, less, a, b))
  where
    one : (b : Bool) (k : ℕ) → AllPairs (λ (a c : ℕ). a < c) (if b then k ∷ [] else [])
    one true k = pairs_one (λ (a c : ℕ). a < c) k
    one false k = pairs_none (λ (a c : ℕ). a < c)

-- a frame arrived by one link, of one stream
one_way_in : (a b c e : ℕ) → Relayed a b ≡ Relayed c e → (a ≡ c) × (b ≡ e)
one_way_in a b c e same = (cc, cc)

-- an offer arrived by no link
no_way_in : (name : List ℕ) (c e : ℕ) → AtEdge name ≡ Relayed c e → ⊥
no_way_in name c e same = absurd cc

module _ (d : Domain) (bridge cycle : ℕ) (rows : List Row) (batches : List LinkBatch) (are : AreBatchesOf d bridge cycle rows batches) where
  -- what a batch brings
  abbrev brings : LinkBatch → List Received
  brings b = map (sent_received d b.link) b.frames

  -- the batches are in order of link number
  by_link : IsNonDecreasingBy (λ (b : LinkBatch). b.link) batches
  by_link i j z le less =
      let up = pairs_from_map (λ (a b : ℕ). a < b) (λ (b : LinkBatch). b.link) batches
      (subst (AllPairs (λ (a b : ℕ). a < b)) (sym are.one_each) (picked_ascend (λ l. enters d l bridge) (length d.links))) in
      elim (cases_lt i j) [
        | inl before ↦ omega (arith, up i j z before less)
        | inr same ↦ (let e : i ≡ j = omega (arith, le, same) in omega (arith, ap (λ (k : ℕ). (get_or batches k z).link) e))
      ]

  -- for one link
  of_one_link : (m : ℕ) →
      flat_map brings (filter (λ (b : LinkBatch). b.link == m) batches) ≡ (if enters d m bridge then map (sent_received d m) (carried_by batches m) else [])
  of_one_link m = elim (cases_Bool (enters d m bridge)) [
    | inl ends ↦
        flat_map_same brings (λ (b : LinkBatch). map (sent_received d m) b.frames) (filter (λ (b : LinkBatch). b.link == m) batches)
        (λ b held. ap (λ (l : ℕ). map (sent_received d l) b.frames)
        (eqb-true b.link m (contains_from_filter (λ (x : LinkBatch). x.link == m) batches b held).1))
        ∙ mapped_flat (sent_received d m) (λ (b : LinkBatch). b.frames) (filter (λ (b : LinkBatch). b.link == m) batches)
        ∙ ap (map (sent_received d m)) (of_link m batches)
        ∙ sym (cond-true (enters d m bridge) (map (sent_received d m) (carried_by batches m)) [] ends)
    | inr other ↦
        ap (flat_map brings) (filter_none (λ (b : LinkBatch). b.link == m) batches (λ b held.
        ne_eqb b.link m (λ e. true≢false (sym (batch_enters d bridge batches b are.one_each held) ∙ ap (λ (l : ℕ). enters d l bridge) e ∙ other))))
        ∙ sym (cond-false (enters d m bridge) (map (sent_received d m) (carried_by batches m)) [] other)
  ]

  -- the frames of the batches are those of the links
  pub batches_by_link : flat_map brings batches ≡ each_below (λ m. if enters d m bridge then map (sent_received d m) (carried_by batches m) else [])
      (length d.links)
  batches_by_link =
      ap (flat_map brings) (by_key (λ (b : LinkBatch). b.link) (length d.links) batches by_link
      (λ b held. enters_inside d b.link bridge (batch_enters d bridge batches b are.one_each held)))
      ∙ flat_below brings (λ m. filter (λ (b : LinkBatch). b.link == m) batches) (length d.links)
      ∙ same_below (λ m. flat_map brings (filter (λ (b : LinkBatch). b.link == m) batches))
      (λ m. if enters d m bridge then map (sent_received d m) (carried_by batches m) else []) (length d.links) (λ m inside. of_one_link m)

  -- they are whole in the cycle
  pub whole_in_cycle : AreWholeIn d (carried_by batches) bridge cycle
  whole_in_cycle m sent ends held =
      let f = contains_from_flat (λ (b : LinkBatch). if b.link == m then b.frames else []) batches sent held in
      let g = contains_if_there (f.0.link == m) f.0.frames sent f.2 in
      subst (λ (l : ℕ). cycle_of d (whole_at d l sent) ≡ cycle) (eqb-true f.0.link m g.0) (are.frames f.0 sent f.1 g.1).in_time

  -- and may be gathered
  pub batch_gathers : 0 < d.cycle_time → d.cycle_time ≤ 10000000 → cycle < 100000 → (b : LinkBatch) → Contains batches b → CanGather d b
  batch_gathers some short early b held = record {
    inside = enters_inside d b.link bridge (batch_enters d bridge batches b are.one_each held);
    early = λ sent inside.
        let whole = (are.frames b sent held inside).in_time in
        let upto = cycle_upto d.cycle_time (whole_at d b.link sent) some in
        let least : sent.start.0 ≤ whole_at d b.link sent = sooner sent.start.0 (time_of (sent.octets + 8) (octet_time_of d b.link)) (delay_of d b.link) in
        let most : (cycle + 1) * d.cycle_time ≤ 100000 * 10000000 = product (cycle + 1) d.cycle_time (omega (arith, early)) short in
        omega (arith, least, upto, ap (λ (c : ℕ). c * d.cycle_time) whole, most);
  }
    where
      -- a frame is whole no sooner than it starts
      sooner : (start time delay : ℕ) → start ≤ start + time + delay
      sooner start time delay = omega arith

      -- a bounded product
      product : (n t : ℕ) → n ≤ 100000 → t ≤ 10000000 → n * t ≤ 100000 * 10000000
      product n t few short = omega (arith, mul-le-mul_right t few, mul-le-mul_right 100000 short)

  module _ (run : Run) (offers : List Offered) (is_domain : run.domain ≡ d) (here : offered_for d run.offers bridge cycle ≡ offers)
      (some : 0 < d.cycle_time) where
    -- what is offered arrives in the cycle
    offered_in_cycle : (x : Offered) → Contains offers x → cycle_of d x.offer.at.0 ≡ cycle
    offered_in_cycle x held =
        let f = contains_from_below (λ offset. filter (is_offered_at bridge (cycle * d.cycle_time + offset)) (numbered run.offers)) d.cycle_time x
        (subst (λ (xs : List Offered). Contains xs x) (sym here) held) in
        let g = contains_from_filter (is_offered_at bridge (cycle * d.cycle_time + f.0)) (numbered run.offers) x f.2 in
        let e : x.offer.at.0 ≡ cycle * d.cycle_time + f.0 = eqb-true x.offer.at.0 (cycle * d.cycle_time + f.0)
        (and_parts (x.offer.bridge == bridge) (x.offer.at.0 == cycle * d.cycle_time + f.0) g.1).1 in
        cycle_is d.cycle_time cycle x.offer.at.0 (omega (arith, e)) (omega (arith, e, f.1))

    -- a frame that is gathered may be taken
    gathered_may : (x : Received) → Contains (gathered_by d batches offers) x → MayBeTaken d bridge cycle rows x
    gathered_may x held = elim (Contains-append_cases (flat_map brings batches) (map offer_received offers) x held) [
      | inl of_batch ↦
          let f = contains_from_flat brings batches x of_batch in
          let g = contains_from_map (sent_received d f.0.link) f.0.frames x f.2 in
          let come = are.frames f.0 g.0 f.1 g.1 in
          subst (MayBeTaken d bridge cycle rows) g.2
          (record {
            in_cycle = come.in_time;
            leads_on = λ link stream came.
                let e = one_way_in f.0.link g.0.stream link stream came in (
                  come.row,
                  ap (row_of rows) (sym e.1) ∙ come.known,
                  ap (λ (l : ℕ). goes_on d come.row (Some l) bridge) (sym e.0) ∙ come.leads_on,
                );
          })
      | inr of_offer ↦
          let f = contains_from_map offer_received offers x of_offer in
          subst (MayBeTaken d bridge cycle rows) f.2
          (record { in_cycle = offered_in_cycle f.0 f.1; leads_on = λ link stream came. absurd (no_way_in f.0.offer.stream link stream came) })
    ]

    module _ (sorted : List Received) (in_order : IsInOrderOf (λ (x : Received). x.at) (gathered_by d batches offers) sorted) where
      -- so may each frame after sorting
      pub sorted_may : (x : Received) → Contains sorted x → MayBeTaken d bridge cycle rows x
      sorted_may x held =
          let same = λ (y : Received). y.at == x.at in
          let own : Contains (filter same sorted) x = contains_filter same sorted x held (eq-eqb x.at x.at refl) in
          gathered_may x (contains_from_filter same (gathered_by d batches offers) x
          (subst (λ (xs : List Received). Contains xs x) (in_order.stable x.at) own)).0

      -- they are what arrives in the cycle
      pub sorted_received : FramesAreTakenInOrder → sorted ≡ received_in run (carried_by batches) bridge cycle
      sorted_received law =
          let gathered : gathered_by d batches offers ≡ gathered_in run (carried_by batches) bridge cycle =
          (λ i. batches_by_link i ++ map offer_received (sym here i))
          ∙ ap (λ (x : Domain). each_below (λ m. if enters x m bridge then map (sent_received x m) (carried_by batches m) else []) (length x.links)
          ++ map offer_received (offered_for x run.offers bridge cycle)) (sym is_domain) in
          law run (carried_by batches) bridge cycle sorted (subst (λ (x : Domain). 0 < x.cycle_time) (sym is_domain) some)
          (subst (λ (x : Domain). AreWholeIn x (carried_by batches) bridge cycle) (sym is_domain) whole_in_cycle)
          (subst (λ (xs : List Received). IsInOrderOf (λ (x : Received). x.at) xs sorted) gathered in_order)

      -- and the verdicts on them are those of the run
      pub same_policed : FramesAreTakenInOrder → table_of run.tables cycle ≡ rows → policed_by d rows bridge cycle sorted ≡ verdicts_in run bridge cycle batches
      same_policed law table =
          sym (police_same d run.tables bridge (replicate (cycle + 1) rows) [] sorted (λ x held.
          ap (table_of run.tables) (sorted_may x held).in_cycle ∙ table ∙ sym (table_held cycle rows)
          ∙ ap (table_of (replicate (cycle + 1) rows)) (sym (sorted_may x held).in_cycle)))
          ∙ (λ i. police_all (sym is_domain i) run.tables bridge [] (sorted_received law i))

      -- so the cycle is taken
      pub cycle_taken : FramesAreTakenInOrder → DropsAreByFrame → table_of run.tables cycle ≡ rows →
          (gates : List KeptGate) (ports_before ports : List PortRecord) (drops in_frames : List Dropped) →
          HasPoliced d bridge cycle ports_before [] (policed_by d rows bridge cycle sorted) gates ports drops →
          IsInOrderOf (λ (x : Dropped). x.frame) drops in_frames → TakesCycle run bridge cycle batches ports_before ports in_frames
      cycle_taken law by_frame table gates ports_before ports drops in_frames h order =
          let same = same_policed law table in
          record {
            queued =
                h.queued
                ∙ (λ i. map (λ (r : PortRecord). with_frames r (queued_to (sym is_domain i) r.link (same i))) ports_before);
            none_lost = λ p held. h.none_lost p (subst (λ (ps : List Policed). Contains ps p) (sym same) held);
            dropped = by_frame run (carried_by batches) (λ b. []) bridge cycle in_frames
                (subst (λ (xs : List Dropped). IsInOrderOf (λ (x : Dropped). x.frame) xs in_frames) (h.dropped ∙ ap (dropped_of cycle bridge) same) order);
          }
