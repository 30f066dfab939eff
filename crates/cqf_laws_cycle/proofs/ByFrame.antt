-- The drops of a cycle, by frame.
use Rattle.std.proofs.Common.{◌≡◌, ℕ, ◌+◌, ◌*◌, ◌<◌, ◌≤◌, Bool, List, length, sym, refl, ap, ◌∙◌, inl, inr, arith, subst, eq-eqb, ne_eqb, Contains}
use Rattle.std.specs.Prelude.{[], ◌++◌, ◌==◌, ◌&&◌, map, filter}
use Rattle.std.specs.List.{enumerate_from}
use Rattle.std.proofs.lemmas.List.Elements.{Contains-append_cases}
use Rattle.std.proofs.lemmas.List.FromFn.{get_or-enumerate_from, length-enumerate_from}
use Rattle.cqf_lists.specs.Lists.{each_below}
use Rattle.cqf_lists.proofs.EachBelow.{below_plus, contains_from_below, filter_none, same_below}
use Rattle.cqf_lists.proofs.Keys.{by_key}
use Rattle.cqf_lists.proofs.Made.{contains_if, filter_made}
use Rattle.cqf_lists.proofs.Members.{contains_filter, contains_from_filter, contains_from_flat, contains_from_map}
use Rattle.cqf_model.specs.declared.frames.Dropped.{Dropped}
use Rattle.cqf_model.specs.declared.frames.Offer.{Offer}
use Rattle.cqf_model.specs.declared.frames.Offered.{Offered}
use Rattle.cqf_model.specs.declared.frames.Reason.{Reason}
use Rattle.cqf_model.specs.declared.frames.Sent.{Sent}
use Rattle.cqf_model.specs.declared.topology.Row.{Row}
use Rattle.cqf_model.specs.Book.{drop_by, drops_in, is_of_index}
use Rattle.cqf_model.specs.Domain.{cycle_of, enters}
use Rattle.cqf_model.specs.Run.{Run}
use Rattle.cqf_model.specs.Table.{row_of, table_of}
use Rattle.cqf_model.specs.Policing.{Carried, DroppedFor, Policed, Received, Relayed, is_offered_at, numbered}
use Rattle.cqf_model.specs.Policing.{offer_received, offered_at, police, police_all, received_at, relayed_at, sent_received, verdict_by, whole_at, within_gate}
use Rattle.cqf_model.proofs.Drops.{dropped_for}
use Rattle.cqf_model.proofs.Policing.{after_those_before, inside_drops_none, police_member}
use Rattle.cqf_laws_cycle.specs.BridgeCycle.{policed_in, received_in}
use Rattle.cqf_laws_cycle.specs.Gathered.{IsInOrderOf, dropped_of}
use Rattle.cqf_laws_cycle.proofs.Continued.{policed_when}

-- an offer's frame number is its position, from 1
pub record IsNumbered (indices frame : ℕ) : Type 0 where
  pub from_1 : 1 ≤ frame
  pub within : frame ≤ indices

-- this holds for each offer
offered_numbered : (offers : List Offer) (x : Offered) → Contains (numbered offers) x → IsNumbered (length offers) x.frame
offered_numbered offers x h =
    let all = enumerate_from 1 offers in
    let w = contains_from_map (λ (y : ℕ × Offer). number y) all x h in
    let k = w.1 in
    let inside : k.0 < length offers = omega (arith, k.1, length-enumerate_from 1 offers) in
    let index : 1 + k.0 ≡ w.0.0 = ap (λ (y : ℕ × Offer). y.0) (sym (get_or-enumerate_from 1 offers k.0 w.0 inside) ∙ k.2) in
    let frame : w.0.0 ≡ x.frame = ap (λ (y : Offered). y.frame) w.2 in
    record { from_1 = omega (arith, frame, index); within = omega (arith, frame, index, inside) }
  where
    -- an offer with its number
    number : ℕ × Offer → Offered
    number y = record { frame = y.0; offer = y.1 }

-- and for each frame that is offered
offer_numbered : (offers : List Offer) (bridge t : ℕ) (x : Received) → Contains (offered_at offers bridge t) x → IsNumbered (length offers) x.frame
offer_numbered offers bridge t x h =
    let w = contains_from_map offer_received (filter (is_offered_at bridge t) (numbered offers)) x h in
    let k = (contains_from_filter (is_offered_at bridge t) (numbered offers) w.0 w.1).0 in
    subst (IsNumbered (length offers)) (ap (λ (y : Received). y.frame) w.2) (offered_numbered offers w.0 k)

module _ (run : Run) (carried : Carried) where
  -- no frame that a link brings is dropped
  relayed_never_dropped : (bridge t m : ℕ) (earlier : List Policed) (x : Received) (reason : Reason) → Contains (relayed_at run.domain carried bridge t m) x →
      (police run.domain run.tables bridge earlier x).verdict ≡ DroppedFor reason → ⊥
  relayed_never_dropped bridge t m earlier x reason h e =
      let d = run.domain in
      let whole = λ (sent : Sent). whole_at d m sent == t in
      let k = contains_if (enters d m bridge) (map (sent_received d m) (filter whole (carried m))) x h in
      let w = contains_from_map (sent_received d m) (filter whole (carried m)) x k in
      let ingress : x.ingress ≡ Relayed m w.0.stream = sym (ap (λ (y : Received). y.ingress) w.2) in
      let table = table_of run.tables (cycle_of d x.at) in
      let passes : Row → Bool = λ row. within_gate d earlier row x in
      let inside : verdict_by d table bridge (cycle_of d x.at) passes (Relayed m w.0.stream) ≡ DroppedFor reason =
      sym (ap (verdict_by d table bridge (cycle_of d x.at) passes) ingress) ∙ e in
      inside_drops_none d bridge m passes (row_of table w.0.stream) reason inside

  -- so what is dropped was offered
  dropped_numbered : (bridge t : ℕ) (earlier : List Policed) (x : Received) (reason : Reason) → Contains (received_at run carried bridge t) x →
      (police run.domain run.tables bridge earlier x).verdict ≡ DroppedFor reason → IsNumbered (length run.offers) x.frame
  dropped_numbered bridge t earlier x reason h e =
      let relayed = relayed_at run.domain carried bridge t in
      elim (Contains-append_cases (each_below relayed (length run.domain.links)) (offered_at run.offers bridge t) x h) [
        | inl k ↦ (let r = contains_from_below relayed (length run.domain.links) x k in absurd (relayed_never_dropped bridge t r.0 earlier x reason r.2 e))
        | inr k ↦ offer_numbered run.offers bridge t x k
      ]

  module _ (earlier : ℕ → List Policed) (bridge cycle : ℕ) where
    -- the verdicts on the cycle's frames
    abbrev policed : List Policed
    policed = policed_in run carried bridge cycle (earlier bridge)

    -- its drops, in order of arrival
    abbrev dropped : List Dropped
    dropped = dropped_of cycle bridge policed

    -- each verdict of the cycle is on a frame of one of its instants
    came : (p : Policed) → Contains policed p → (offset : ℕ) × (offset < run.domain.cycle_time) ×
        Contains (received_at run carried bridge (cycle * run.domain.cycle_time + offset)) p.received
    came p h =
        contains_from_below (λ offset. received_at run carried bridge (cycle * run.domain.cycle_time + offset)) run.domain.cycle_time p.received
        (police_member run.domain run.tables bridge (earlier bridge) (received_in run carried bridge cycle) p h)

    -- each drop is of an offer
    drop_numbered : (drop : Dropped) → Contains dropped drop → IsNumbered (length run.offers) drop.frame
    drop_numbered drop h =
        let d = run.domain in
        let w = contains_from_flat (λ (p : Policed). drop_by cycle bridge p.received p.verdict) policed drop h in
        let p = w.0 in
        let f = dropped_for cycle bridge p.received p.verdict drop w.2 in
        let r = after_those_before d run.tables bridge (earlier bridge) (received_in run carried bridge cycle) p w.1 in
        let before = earlier bridge ++ police_all d run.tables bridge (earlier bridge) r.before in
        let same : r.x ≡ p.received = sym (ap (λ (q : Policed). q.received) r.is) in
        let verdict : (police d run.tables bridge before p.received).verdict ≡ DroppedFor f.0 =
        subst (λ (x : Received). (police d run.tables bridge before x).verdict ≡ DroppedFor f.0) same (sym (ap (λ (q : Policed). q.verdict) r.is) ∙ f.1) in
        let k = came p w.1 in
        subst (IsNumbered (length run.offers)) (ap (λ (y : Dropped). y.frame) f.2)
        (dropped_numbered bridge (cycle * d.cycle_time + k.0) before p.received f.0 k.2 verdict)

    -- the drops of a frame are those of its offer
    drops_of_frame : (index : ℕ) →
        filter (λ (x : Dropped). x.frame == index + 1) dropped ≡ dropped_of cycle bridge (filter (is_of_index run.domain cycle index) policed)
    drops_of_frame index =
        filter_made (λ (p : Policed). drop_by cycle bridge p.received p.verdict) (is_of_index run.domain cycle index)
        (λ (x : Dropped). x.frame == index + 1) policed (λ p drop h k.
        let f = dropped_for cycle bridge p.received p.verdict drop k in
        sym (ap (λ (y : Dropped). y.frame == index + 1) f.2)
        ∙ sym (ap (λ (b : Bool). b && (p.received.frame == index + 1))
        (eq-eqb (cycle_of run.domain p.received.at) cycle (policed_when run carried bridge cycle (earlier bridge) p h))))

    module _ (sorted : List Dropped) (is : IsInOrderOf (λ (x : Dropped). x.frame) dropped sorted) where
      -- what is sorted was dropped
      was_dropped : (drop : Dropped) → Contains sorted drop → IsNumbered (length run.offers) drop.frame
      was_dropped drop h =
          let same = λ (x : Dropped). x.frame == drop.frame in
          let own : Contains (filter same sorted) drop = contains_filter same sorted drop h (eq-eqb drop.frame drop.frame refl) in
          drop_numbered drop (contains_from_filter same dropped drop (subst (λ (xs : List Dropped). Contains xs drop) (is.stable drop.frame) own)).0

      -- so sorted by frame, the drops are those of the page
      pub by_frame : sorted ≡ drops_in run.domain (length run.offers) (λ b. policed_in run carried b cycle (earlier b)) cycle bridge
      by_frame =
          let indices = length run.offers in
          let by = λ (t : ℕ). filter (λ (x : Dropped). x.frame == t) sorted in
          let none_0 : by 0 ≡ [] =
          filter_none (λ (x : Dropped). x.frame == 0) sorted (λ x h. ne_eqb x.frame 0 (λ e. omega (arith, e, (was_dropped x h).from_1))) in
          by_key (λ (x : Dropped). x.frame) (1 + indices) sorted is.in_order (λ x h. omega (arith, (was_dropped x h).within))
          ∙ below_plus by 1 indices
          ∙ ap (λ (xs : List Dropped). xs ++ each_below (λ index. by (1 + index)) indices) none_0
          ∙ same_below (λ index. by (1 + index)) (λ index. dropped_of cycle bridge (filter (is_of_index run.domain cycle index) policed)) indices (λ index l.
          let e : 1 + index ≡ index + 1 = omega arith in
          ap by e ∙ is.stable (index + 1) ∙ drops_of_frame index)
