-- What the gates of a bridge decide on an offer is what the reservations decide, by only the offers before it.
use Rattle.cqf_model.specs.Table.{hop_number_after, reserved_in}
use Rattle.cqf_model.specs.Policing.{came_by}
use Rattle.std.proofs.Common.{◌≡◌, ℕ, ◌+◌, ◌<◌, ◌∷◌, [], ◌++◌, List, Bool, true, false, Some, None, inl, inr, sym, ap, ap₂, ◌∙◌, subst, arith, refl, Contains}
use Rattle.std.proofs.Common.{filter, map, fold, eqb-true, eq-eqb, ◌==◌, ◌&&◌, nat_le, if◌then◌else◌, append_assoc, append-nil}
use Rattle.std.proofs.lemmas.Bool.{cases_Bool, cond-false, and_parts, and_from, false≢true}
use Rattle.std.proofs.lemmas.List.Folds.{fold-map}
use Rattle.std.proofs.lemmas.List.Sums.{sum_by_push}
use Rattle.cqf_model.proofs.Texts.{is_text_same}
use Rattle.cqf_model.specs.declared.frames.Offered.{Offered}
use Rattle.cqf_units.specs.Timing.{counted_of}
use Rattle.cqf_model.specs.declared.topology.Row.{Row}
use Rattle.cqf_model.specs.Domain.{Domain, cycle_of, is_text}
use Rattle.cqf_model.specs.Table.{AreOrderly, begins_at, is_live, row_named, table_of}
use Rattle.cqf_model.specs.Policing.{Ingress, AtEdge, Relayed, Received, Policed, Queued, is_queued_of, offer_received, police, police_all, verdict_by, within_gate}
use Rattle.cqf_model.specs.Shift.{claims, offer_cycle, take_octets, taken_by}
use Rattle.cqf_laws_shift.specs.Edge.{GateIsReservation, octets_before}
use Rattle.cqf_lists.proofs.Members.{contains_from_filter, find_member, find_some}
use Rattle.cqf_lists.proofs.EachBelow.{fold_filter, fold_same}
use Rattle.cqf_lists.proofs.Pairs.{one_of_pairs}
use Rattle.cqf_laws_shift.proofs.Policing.{taken}
use Rattle.cqf_laws_shift.proofs.Trees.{one_beginning, one_ingress_at, same_goes_on}
use Rattle.cqf_laws_shift.proofs.Verdicts.{IsQueuedBy, QueuedAtEdge, edge_passes, queued_of, queued_row, queued_says}

-- two tests that imply each other are equal
same_tests : (a b : Bool) → (a ≡ true → b ≡ true) → (b ≡ true → a ≡ true) → a ≡ b
same_tests true true to from = refl
same_tests true false to from = sym (to refl)
same_tests false true to from = from refl
same_tests false false to from = refl

-- three tests that pass
pub and_three : (a b c : Bool) → (a && b && c) ≡ true → (a ≡ true) × (b ≡ true) × (c ≡ true)
and_three true true true e = (refl, refl, refl)
and_three true true false e = absurd (cc)
and_three true false c e = absurd (cc)
and_three false b c e = absurd (cc)

-- and that pass together
pub three_and : (a b c : Bool) → a ≡ true → b ≡ true → c ≡ true → (a && b && c) ≡ true
three_and true true true x y z = refl
three_and true true false x y z = absurd (cc)
three_and true false c x y z = absurd (cc)
three_and false b c x y z = absurd (cc)

-- the row of a table that has a name is found by it
pub found_by_name : (d : Domain) (tables : List (List Row)) → AreOrderly d tables → (c : ℕ) (row : Row) (name : List ℕ) → Contains (table_of tables c) row →
    is_text row.name name ≡ true → row_named (table_of tables c) name ≡ Some row
found_by_name d tables orderly c row name inside named =
    let found = find_some (λ (r : Row). is_text r.name name) (table_of tables c) row inside named in
    let member = find_member (λ (r : Row). is_text r.name name) (table_of tables c) found.0 found.1 in
    let names : found.0.name ≡ row.name = is_text_same found.0.name name member.1 ∙ sym (is_text_same row.name name named) in
    found.1 ∙ ap Some (one_of_pairs (λ (a b : Row). a.name ≡ b.name → ⊥) (table_of tables c) found.0 row (orderly.names c) member.0 inside
    (λ apart. apart names) (λ apart. apart (sym names)))

-- whether the frame was offered at the edge
abbrev pub is_offered : Ingress → Bool
is_offered (AtEdge name) = true
is_offered (Relayed m number) = false

-- what is taken of a row's reservation after a frame that arrives at a bridge
abbrev take_by : Domain → ℕ → Row → ℕ → ℕ → ℕ → ℕ → Ingress → ℕ
take_by d bridge row c so_far at octets (AtEdge name) =
    if ((cycle_of d at == c) && is_text row.name name && begins_at d row bridge) && nat_le (so_far + octets) (reserved_in row 0 c) then so_far + octets else so_far
take_by d bridge row c so_far at octets (Relayed m number) = so_far

module _ (reserves : GateIsReservation) (d : Domain) (some : 0 < d.cycle_time) (tables : List (List Row)) (orderly : AreOrderly d tables) (bridge c : ℕ)
    (row : Row) (inside : Contains (table_of tables c) row) (live : is_live row c ≡ true) (here : begins_at d row bridge ≡ true) where
  -- rows of the table with the same number are equal
  one_row : (q : Row) → Contains (table_of tables c) q → q.no ≡ row.no → q ≡ row
  one_row q member same = one_of_pairs (λ (a b : Row). a.no ≡ b.no → ⊥) (table_of tables c) q row (orderly.numbers c) member inside (λ apart. apart same)
      (λ apart. apart (sym same))

  -- one more frame takes of the row what it takes of the reservation
  police_takes : (earlier : List Policed) (x : Received) →
      octets_before d row.no c (earlier ++ police d tables bridge earlier x ∷ []) ≡ take_by d bridge row c
      (octets_before d row.no c earlier) x.at (counted_of d.overhead x.octets) x.ingress
  police_takes earlier x = go x.ingress refl
    where
      so_far : ℕ
      so_far = octets_before d row.no c earlier

      cx : ℕ
      cx = cycle_of d x.at

      p : Policed
      p = police d tables bridge earlier x

      passes : Row → Bool
      passes r = within_gate d earlier r x

      -- what the frame's verdict is based on
      says : (q : Row) → p.verdict ≡ Queued q → IsQueuedBy d (table_of tables cx) bridge cx x.ingress q × (passes q ≡ true)
      says q e = queued_says d (table_of tables cx) bridge cx passes x.ingress q e

      grown : (a b : Bool) (t o : ℕ) → a ≡ b → t + (if a then o else 0) ≡ (if b then t + o else t)
      grown true true t o e = refl
      grown true false t o e = absurd (cc)
      grown false true t o e = absurd (cc)
      grown false false t o e = omega arith

      pushed : octets_before d row.no c (earlier ++ p ∷ []) ≡ so_far + taken d row.no c p
      pushed = sum_by_push (taken d row.no c) earlier p

      fits : (name : List ℕ) → x.ingress ≡ AtEdge name → (q : Row) → q ≡ row → cx ≡ c → passes q ≡ nat_le (so_far + counted_of d.overhead x.octets) (reserved_in row 0 c)
      fits name ingress q same cycle =
          reserves d earlier q x some
          ∙ ap (λ (w : Ingress). nat_le (octets_before d q.no cx earlier + counted_of d.overhead x.octets) (reserved_in q (hop_number_after q (came_by w)) cx)) ingress
          ∙ ap₂ (λ (z : Row) k. nat_le (octets_before d z.no k earlier + counted_of d.overhead x.octets) (reserved_in z 0 k)) same cycle

      relayed : (m number : ℕ) → x.ingress ≡ Relayed m number → (is_queued_of row.no p.verdict && (cx == c)) ≡ false
      relayed m number ingress = elim (cases_Bool (is_queued_of row.no p.verdict && (cx == c))) [
        | inr f ↦ f
        | inl t ↦
            let q = queued_of row.no p.verdict (and_parts (is_queued_of row.no p.verdict) (cx == c) t).0 in
            let by : IsQueuedBy d (table_of tables cx) bridge cx (Relayed m number) q.0 =
            subst (λ z. IsQueuedBy d (table_of tables cx) bridge cx z q.0) ingress (says q.0 q.1).0 in
            let member = queued_row d (table_of tables cx) bridge cx (Relayed m number) q.0 by in
            let tree = (orderly.one_stream cx c q.0 row member inside q.2).tree in
            absurd (two_ways m (one_ingress_at d row (orderly.trees c row inside) None (Some m) bridge here (same_goes_on d q.0 row (Some m) bridge tree by.here)))
      ]
        where
          two_ways : (m : ℕ) → None ≡ Some m → ⊥
          two_ways m e = cc

      offered : (name : List ℕ) → x.ingress ≡ AtEdge name →
          (is_queued_of row.no p.verdict && (cx == c)) ≡ (((cx == c) && is_text row.name name && begins_at d row bridge) && nat_le
          (so_far + counted_of d.overhead x.octets) (reserved_in row 0 c))
      offered name ingress = same_tests (is_queued_of row.no p.verdict && (cx == c))
          (((cx == c) && is_text row.name name && begins_at d row bridge) && nat_le (so_far + counted_of d.overhead x.octets) (reserved_in row 0 c)) to from
        where
          to : (is_queued_of row.no p.verdict && (cx == c)) ≡ true →
              (((cx == c) && is_text row.name name && begins_at d row bridge) && nat_le (so_far + counted_of d.overhead x.octets) (reserved_in row 0 c)) ≡ true
          to t =
              let both = and_parts (is_queued_of row.no p.verdict) (cx == c) t in
              let cycle = eqb-true cx c both.1 in
              let q = queued_of row.no p.verdict both.0 in
              let s = says q.0 q.1 in
              let by : IsQueuedBy d (table_of tables cx) bridge cx (AtEdge name) q.0 = subst (λ z. IsQueuedBy d (table_of tables cx) bridge cx z q.0) ingress s.0 in
              let found = find_member (λ (r : Row). is_text r.name name) (table_of tables cx) q.0 by.is in
              let same = one_row q.0 (subst (λ z. Contains (table_of tables z) q.0) cycle found.0) q.2 in
              and_from ((cx == c) && is_text row.name name && begins_at d row bridge) (nat_le (so_far + counted_of d.overhead x.octets) (reserved_in row 0 c))
              (three_and (cx == c) (is_text row.name name) (begins_at d row bridge) both.1 (ap (λ (z : Row). is_text z.name name) (sym same) ∙ found.1) here)
              (sym (fits name ingress q.0 same cycle) ∙ s.1)

          from : (((cx == c) && is_text row.name name && begins_at d row bridge) && nat_le (so_far + counted_of d.overhead x.octets) (reserved_in row 0 c)) ≡ true →
              (is_queued_of row.no p.verdict && (cx == c)) ≡ true
          from t =
              let both = and_parts ((cx == c) && is_text row.name name && begins_at d row bridge) (nat_le (so_far + counted_of d.overhead x.octets) (reserved_in row 0 c)) t in
              let three = and_three (cx == c) (is_text row.name name) (begins_at d row bridge) both.0 in
              let cycle = eqb-true cx c three.0 in
              let is : row_named (table_of tables cx) name ≡ Some row = ap (λ z. row_named (table_of tables z) name) cycle
              ∙ found_by_name d tables orderly c row name inside three.1 in
              let q : QueuedAtEdge d bridge cx (row_named (table_of tables cx) name) row =
              record { is = is; live = ap (is_live row) cycle ∙ live; here = here } in
              let verdict : p.verdict ≡ Queued row = ap (verdict_by d (table_of tables cx) bridge cx passes) ingress
              ∙ edge_passes d bridge cx passes (row_named (table_of tables cx) name) row q (fits name ingress row refl cycle ∙ both.1) in
              and_from (is_queued_of row.no p.verdict) (cx == c) (ap (is_queued_of row.no) verdict ∙ eq-eqb row.no row.no refl) three.0

      go : (ingress : Ingress) → x.ingress ≡ ingress → octets_before d row.no c (earlier ++ p ∷ []) ≡ take_by d bridge row c so_far x.at (counted_of d.overhead x.octets) ingress
      go (AtEdge name) ingress = pushed ∙ grown (is_queued_of row.no p.verdict && (cx == c)) _ so_far (counted_of d.overhead x.octets) (offered name ingress)
      go (Relayed m number) ingress = pushed ∙ grown (is_queued_of row.no p.verdict && (cx == c)) false so_far (counted_of d.overhead x.octets) (relayed m number ingress)

  -- so all that arrives takes what the reservation gives, one frame after the other
  all_takes : (earlier : List Policed) (xs : List Received) →
      octets_before d row.no c (earlier ++ police_all d tables bridge earlier xs) ≡ fold
      (λ so_far (x : Received). take_by d bridge row c so_far x.at (counted_of d.overhead x.octets) x.ingress) (octets_before d row.no c earlier) xs
  all_takes earlier [] = ap (octets_before d row.no c) (append-nil earlier)
  all_takes earlier (x ∷ xs) =
      let p = police d tables bridge earlier x in
      let more = earlier ++ p ∷ [] in
      ap (octets_before d row.no c) (sym (append_assoc earlier (p ∷ []) (police_all d tables bridge more xs)))
      ∙ all_takes more xs
      ∙ ap (λ z. fold (λ so_far (x : Received). take_by d bridge row c so_far x.at (counted_of d.overhead x.octets) x.ingress) z xs) (police_takes earlier x)

  -- and among the offers of the whole domain, only those at this bridge count
  taken_here : (offers : List Offered) →
      taken_by d row c offers ≡ fold (λ so_far (y : Offered). take_by d bridge row c so_far y.offer.at.0 (counted_of d.overhead y.offer.octets) (AtEdge y.offer.stream)) 0
      (filter (λ (y : Offered). y.offer.bridge == bridge) offers)
  taken_here offers =
      fold_filter (take_octets d row c) at_bridge 0 offers
      (λ so_far y m other. cond-false (claims d row c y && nat_le (so_far + counted_of d.overhead y.offer.octets) (reserved_in row 0 c)) (so_far + counted_of d.overhead y.offer.octets) so_far
      (none so_far y other))
      ∙ fold_same (take_octets d row c) (λ so_far (y : Offered). take_by d bridge row c so_far y.offer.at.0 (counted_of d.overhead y.offer.octets) (AtEdge y.offer.stream)) 0
      (filter at_bridge offers)
      (λ so_far y m. ap (λ z. if ((cycle_of d y.offer.at.0 == c) && is_text row.name y.offer.stream && begins_at d row z) && nat_le
      (so_far + counted_of d.overhead y.offer.octets) (reserved_in row 0 c) then so_far + counted_of d.overhead y.offer.octets else so_far)
      (eqb-true y.offer.bridge bridge (contains_from_filter at_bridge offers y m).1))
    where
      at_bridge : Offered → Bool
      at_bridge y = y.offer.bridge == bridge

      none : (so_far : ℕ) (y : Offered) → at_bridge y ≡ false → (claims d row c y && nat_le (so_far + counted_of d.overhead y.offer.octets) (reserved_in row 0 c)) ≡ false
      none so_far y other = elim (cases_Bool (claims d row c y && nat_le (so_far + counted_of d.overhead y.offer.octets) (reserved_in row 0 c))) [
        | inr f ↦ f
        | inl t ↦
            let there = (and_three (offer_cycle d y == c) (is_text row.name y.offer.stream) (begins_at d row y.offer.bridge)
            (and_parts (claims d row c y) (nat_le (so_far + counted_of d.overhead y.offer.octets) (reserved_in row 0 c)) t).0).2 in
            absurd (false≢true (sym other ∙ eq-eqb y.offer.bridge bridge (one_beginning d row (orderly.trees c row inside) y.offer.bridge bridge there here)))
      ]

  -- so if the offers among some frames are these offers at this bridge, the row's octets are what these offers take
  pub octets_are_taken : (before : List Received) (offers : List Offered) →
      filter (λ (x : Received). is_offered x.ingress) before ≡ map offer_received (filter (λ (y : Offered). y.offer.bridge == bridge) offers) →
      octets_before d row.no c (police_all d tables bridge [] before) ≡ taken_by d row c offers
  octets_are_taken before offers same =
      all_takes [] before
      ∙ fold_filter step (λ (x : Received). is_offered x.ingress) 0 before (λ so_far x m relayed. idle so_far x.at (counted_of d.overhead x.octets) x.ingress relayed)
      ∙ ap (fold step 0) same
      ∙ fold-map step offer_received 0 (filter (λ (y : Offered). y.offer.bridge == bridge) offers)
      ∙ sym (taken_here offers)
    where
      step : ℕ → Received → ℕ
      step so_far x = take_by d bridge row c so_far x.at (counted_of d.overhead x.octets) x.ingress

      idle : (so_far at octets : ℕ) (ingress : Ingress) → is_offered ingress ≡ false → take_by d bridge row c so_far at octets ingress ≡ so_far
      idle so_far at octets (AtEdge name) e = absurd (cc)
      idle so_far at octets (Relayed m number) e = refl
