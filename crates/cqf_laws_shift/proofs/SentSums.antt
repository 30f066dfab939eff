-- What a link sends in a cycle, and what arrives of it at the next bridge, counts no more than what was queued in the cycle before,
-- so a stream's octets are within its reservation.
use Rattle.std.proofs.Common.{◌≡◌, ℕ, ◌+◌, ◌<◌, ◌≤◌, [], List, Bool, true, false, inl, inr, sym, ap, ◌∙◌, subst, arith, refl, AllPairs, Contains, map, filter}
use Rattle.std.proofs.Common.{sum_by, length, get_or, eq-eqb, eqb-true, ◌==◌, ◌&&◌, if◌then◌else◌, le_trans, le_of_eq, zero-add, nat_lt, ne_eqb}
use Rattle.std.specs.List.{enumerate_from}
use Rattle.std.proofs.lemmas.Bool.{cases_Bool, cond-true, cond-false}
use Rattle.std.proofs.lemmas.List.Elements.{Contains-get_or}
use Rattle.std.proofs.lemmas.List.FromFn.{get_or-enumerate_from, length-enumerate_from}
use Rattle.std.proofs.lemmas.List.Sums.{sum_by-append}
use Rattle.cqf_units.specs.Timing.{counted_of}
use Rattle.cqf_model.specs.declared.frames.Sent.{Sent}
use Rattle.cqf_model.specs.declared.topology.Row.{Row}
use Rattle.cqf_model.specs.Domain.{cycle_of, enters, bridge_of}
use Rattle.cqf_model.specs.Table.{table_of}
use Rattle.cqf_model.specs.Port.{Transmission}
use Rattle.cqf_lists.specs.Lists.{each_below}
use Rattle.cqf_model.specs.Run.{Run, end_of_run}
use Rattle.cqf_model.specs.Policing.{Ingress, AtEdge, Relayed, Carried, Received, Policed, Verdict, is_offered_at, numbered, offer_received, offered_at, received_at}
use Rattle.cqf_model.specs.Policing.{relayed_at, sent_received, whole_at}
use Rattle.cqf_model.specs.Network.{QueuedFrame, queued_frame, queued_by, no_frame}
use Rattle.cqf_laws_shift.specs.Alone.{IsRunAs, SendsAlone}
use Rattle.cqf_lists.proofs.Members.{contains_from_map}
use Rattle.cqf_lists.proofs.Sums.{sum_map, sum_flat, sum_none, sum_le_below, sum_le_members, sum_matched, sum_member, sum_indices, sum_one_below, sum_by_keys}
use Rattle.cqf_laws_shift.proofs.Came.{came, policed, queued}
use Rattle.cqf_laws_shift.proofs.CycleLaws.{CycleLaws}
use Rattle.cqf_laws_shift.proofs.Fed.{facts}
use Rattle.cqf_laws_shift.proofs.Policing.{taken}
use Rattle.cqf_laws_shift.proofs.Queues.{one_or_none}
use Rattle.cqf_laws_shift.proofs.Fed.{number_of}
use Rattle.cqf_laws_shift.proofs.Runs.{sends, sent_at, sents_are, sent_timed, start_timed, start_in_queue}

-- an element is at its index
placed_at : {X : Type 0} (xs : List X) (k : ℕ) (e : X) → k < length xs → Contains (enumerate_from 0 xs) (k, get_or xs k e)
placed_at {X} xs k e inside =
    let numbered : k < length (enumerate_from 0 xs) = omega (arith, inside, length-enumerate_from 0 xs) in
    subst (λ (z : ℕ × X). Contains (enumerate_from 0 xs) z) (get_or-enumerate_from 0 xs k (k, e) inside ∙ ap (λ (z : ℕ). (z, get_or xs k e)) (zero-add k))
    (Contains-get_or (enumerate_from 0 xs) k (k, e) numbered)

-- how much a frame counts, by its number, its stream's number and its octets
abbrev pub Weight : Type 0
Weight = ℕ → ℕ → ℕ → ℕ

-- the octets of a stream's frame, as gates with this overhead count them; 0 for other frames
abbrev pub of_stream : ℕ → ℕ → Weight
of_stream overhead number frame stream octets = if stream == number then counted_of overhead octets else 0

-- what a frame counts if it came by this link
abbrev pub by_link : ℕ → (ℕ → ℕ) → Ingress → ℕ
by_link m weight (AtEdge name) = 0
by_link m weight (Relayed link stream) = if link == m then weight stream else 0

module _ (laws : CycleLaws) (run : Run) (carried : Carried) {heard : Carried} (alone : IsRunAs run carried heard) (m : ℕ) (is_link : m < length run.domain.links) (w : Weight) where
  -- what a frame counts that the link sends in a cycle
  abbrev pub sent_counts : ℕ → Sent → ℕ
  sent_counts cycle s = if cycle_of run.domain s.start.0 == cycle then w s.frame s.stream s.octets else 0

  -- what a frame counts that is queued to it
  abbrev pub queued_counts : ℕ → QueuedFrame → ℕ
  queued_counts cycle q = if cycle_of run.domain q.arrival.at.0 == cycle then w q.arrival.frame (number_of q) q.arrival.octets else 0

  -- what a frame counts that arrives by it
  abbrev pub arriving_counts : ℕ → Received → ℕ
  arriving_counts cycle x = if cycle_of run.domain x.at == cycle then by_link m (λ stream. w x.frame stream x.octets) x.ingress else 0

  -- no frame starts twice
  starts_apart : (index : ℕ) → AllPairs (λ (a b : Transmission). (a.0 == index) ≡ true → (b.0 == index) ≡ true → ⊥)
      (sends laws run carried alone m is_link).starts
  starts_apart index i j e l inside first second =
      let s = sends laws run carried alone m is_link in
      let a = get_or s.starts i e in
      let b = get_or s.starts j e in
      let ca : Contains s.starts (index, a.1) =
      subst (λ z. Contains s.starts (z, a.1)) (eqb-true a.0 index first) (Contains-get_or s.starts i e (omega (arith, l, inside))) in
      let cb : Contains s.starts (index, b.1) = subst (λ z. Contains s.starts (z, b.1)) (eqb-true b.0 index second) (Contains-get_or s.starts j e inside) in
      omega (arith, s.legal.once index a.1 b.1 ca cb, s.legal.in_order i j e l inside)

  -- what it sends in a cycle was queued in the one before
  pub sent_was_queued : (cycle : ℕ) → sum_by (sent_counts (cycle + 1)) (carried m) ≤ sum_by (queued_counts cycle) (queued run heard (end_of_run run) m)
  sent_was_queued cycle =
      subst (λ z. z ≤ sum_by (queued_counts cycle) q) (sym whole)
      (subst (λ z. sum_by f s.starts ≤ z) (sum_indices (queued_counts cycle) 0 q)
      (sum_matched f (λ (y : ℕ × QueuedFrame). queued_counts cycle y.1) (λ (x : Transmission) (y : ℕ × QueuedFrame). x.0 == y.0) s.starts
      (enumerate_from 0 q) has (λ y. starts_apart y.0)))
    where
      s : SendsAlone run.domain (end_of_run run) m (queued run heard (end_of_run run) m) (carried m)
      s = sends laws run carried alone m is_link

      q : List QueuedFrame
      q = queued run heard (end_of_run run) m

      f : Transmission → ℕ
      f start = sent_counts (cycle + 1) (sent_at q start)

      whole : sum_by (sent_counts (cycle + 1)) (carried m) ≡ sum_by f s.starts
      whole = ap (sum_by (sent_counts (cycle + 1))) (sents_are laws run carried alone m is_link) ∙ sum_map (sent_counts (cycle + 1)) (sent_at q) s.starts

      term : (start : Transmission) → Contains s.starts start → f start ≤ queued_counts cycle (get_or q start.0 no_frame)
      term start c =
          let x = get_or q start.0 no_frame in
          let value = w x.arrival.frame (number_of x) x.arrival.octets in
          let t = start_timed laws run carried alone m is_link start.0 start.1 c in
          elim (cases_Bool (cycle_of run.domain start.1 == cycle + 1)) [
            | inl now_on ↦
                let in_cycle : cycle_of run.domain x.arrival.at.0 ≡ cycle = omega (arith, t, eqb-true (cycle_of run.domain start.1) (cycle + 1) now_on) in
                le_of_eq (cond-true (cycle_of run.domain start.1 == cycle + 1) value 0 now_on
                ∙ sym (cond-true (cycle_of run.domain x.arrival.at.0 == cycle) value 0 (eq-eqb (cycle_of run.domain x.arrival.at.0) cycle in_cycle)))
            | inr none ↦ omega (arith, cond-false (cycle_of run.domain start.1 == cycle + 1) value 0 none)
          ]

      has : (start : Transmission) → Contains s.starts start →
          f start ≤ sum_by (λ (y : ℕ × QueuedFrame). if start.0 == y.0 then queued_counts cycle y.1 else 0) (enumerate_from 0 q)
      has start c =
          let index = start.0 in
          let inside = start_in_queue laws run carried alone m is_link index start.1 c in
          let own = sum_member (λ (y : ℕ × QueuedFrame). if index == y.0 then queued_counts cycle y.1 else 0) (enumerate_from 0 q)
          (index, get_or q index no_frame) (placed_at q index no_frame inside) in
          omega (arith, term start c, own, cond-true (index == index) (queued_counts cycle (get_or q index no_frame)) 0 (eq-eqb index index refl))

  -- what arrives by the link at a bridge in a cycle is at most what the link sends
  pub arrives_within : (bridge cycle : ℕ) → sum_by (arriving_counts cycle) (came run heard (end_of_run run) bridge) ≤ sum_by (sent_counts cycle) (carried m)
  arrives_within bridge cycle =
      le_trans (sum_le_below f g (received_at run heard bridge) (λ t. filter (λ (s : Sent). whole_at run.domain m s == t) (heard m)) last at_instant)
      (subst (λ z. z ≤ sum_by (sent_counts cycle) (carried m)) (sym (sum_by_keys g (whole_at run.domain m) (heard m) last))
      (subst (λ z. z ≤ sum_by (sent_counts cycle) (carried m)) (sym (ap (sum_by counted) (alone.meets.are m) ∙ sum_map counted noted (carried m)))
      (sum_le_members (λ s. counted (noted s)) (sent_counts cycle) (carried m) each_sent)))
    where
      last : ℕ
      last = end_of_run run

      f : Received → ℕ
      f = arriving_counts cycle

      g : Sent → ℕ
      g s = if cycle_of run.domain (whole_at run.domain m s) == cycle then w s.frame s.stream s.octets else 0

      noted : Sent → Sent
      noted = alone.meets.noted m

      counted : Sent → ℕ
      counted h = if nat_lt (whole_at run.domain m h) last then g h else 0

      each_sent : (s : Sent) → Contains (carried m) s → counted (noted s) ≤ sent_counts cycle s
      each_sent s c =
          let t = (sent_timed laws run carried alone m is_link s c).1 in
          let alike = alone.meets.each m s is_link c in
          let h = noted s in
          let weight : w h.frame h.stream h.octets ≡ w s.frame s.stream s.octets =
          ap (λ z. w z h.stream h.octets) alike.frame ∙ ap (λ z. w s.frame z h.octets) alike.stream ∙ ap (w s.frame s.stream) alike.octets in
          let same : g h ≡ sent_counts cycle s =
          ap (λ z. if z == cycle then w h.frame h.stream h.octets else 0) t.whole ∙ ap (λ z. if cycle_of run.domain s.start.0 == cycle then z else 0) weight in
          elim (cases_Bool (nat_lt (whole_at run.domain m h) last)) [
            | inl y ↦ le_of_eq (cond-true (nat_lt (whole_at run.domain m h) last) (g h) 0 y ∙ same)
            | inr u ↦ omega (arith, cond-false (nat_lt (whole_at run.domain m h) last) (g h) 0 u)
          ]

      nothing : (t : ℕ) → ◌≡◌ {A = ℕ} (if cycle_of run.domain t == cycle then 0 else 0) 0
      nothing t = elim (cases_Bool (cycle_of run.domain t == cycle)) [
        | inl y ↦ cond-true {A = ℕ} (cycle_of run.domain t == cycle) 0 0 y
        | inr u ↦ cond-false {A = ℕ} (cycle_of run.domain t == cycle) 0 0 u
      ]

      no_offer : (t : ℕ) → sum_by f (offered_at run.offers bridge t) ≡ 0
      no_offer t = sum_none f (offered_at run.offers bridge t) (λ x c.
          let r = contains_from_map offer_received (filter (is_offered_at bridge t) (numbered run.offers)) x c in
          ap f (sym r.2) ∙ nothing r.0.offer.at.0)

      sent_there : (t k : ℕ) → sum_by f (relayed_at run.domain heard bridge t k) ≤ sum_by (λ (s : Sent). f (sent_received run.domain k s))
          (filter (λ (s : Sent). whole_at run.domain k s == t) (heard k))
      sent_there t k = elim (cases_Bool (enters run.domain k bridge)) [
        | inl y ↦ le_of_eq (ap (sum_by f)
            (cond-true (enters run.domain k bridge) (map (sent_received run.domain k) (filter (λ s. whole_at run.domain k s == t) (heard k))) [] y)
            ∙ sum_map f (sent_received run.domain k) (filter (λ (s : Sent). whole_at run.domain k s == t) (heard k)))
        | inr u ↦ omega (
          arith,
          ap (sum_by f)
              (cond-false (enters run.domain k bridge) (map (sent_received run.domain k) (filter (λ s. whole_at run.domain k s == t) (heard k))) [] u),
        )
      ]

      other_link : (t k : ℕ) → (k ≡ m → ⊥) → sum_by f (relayed_at run.domain heard bridge t k) ≡ 0
      other_link t k differ =
          let none : sum_by (λ (s : Sent). f (sent_received run.domain k s)) (filter (λ (s : Sent). whole_at run.domain k s == t) (heard k)) ≡ 0 =
          sum_none (λ (s : Sent). f (sent_received run.domain k s)) (filter (λ (s : Sent). whole_at run.domain k s == t) (heard k)) (λ s c.
          ap (λ z. if cycle_of run.domain (whole_at run.domain k s) == cycle then z else 0)
          (cond-false (k == m) (w s.frame s.stream s.octets) 0 (ne_eqb k m differ)) ∙ nothing (whole_at run.domain k s)) in
          omega (arith, sent_there t k, none)

      own_link : (t : ℕ) → sum_by f (relayed_at run.domain heard bridge t m) ≤ sum_by g (filter (λ (s : Sent). whole_at run.domain m s == t) (heard m))
      own_link t =
          le_trans (sent_there t m) (sum_le_members (λ (s : Sent). f (sent_received run.domain m s)) g
          (filter (λ (s : Sent). whole_at run.domain m s == t) (heard m)) (λ s c.
          le_of_eq (ap (λ z. if cycle_of run.domain (whole_at run.domain m s) == cycle then z else 0)
          (cond-true (m == m) (w s.frame s.stream s.octets) 0 (eq-eqb m m refl)))))

      at_instant : (t : ℕ) → sum_by f (received_at run heard bridge t) ≤ sum_by g (filter (λ (s : Sent). whole_at run.domain m s == t) (heard m))
      at_instant t =
          let parts = sum_by-append f (each_below (relayed_at run.domain heard bridge t) (length run.domain.links)) (offered_at run.offers bridge t) in
          let one = sum_one_below f (relayed_at run.domain heard bridge t) m (length run.domain.links) (other_link t) in
          omega (arith, parts, one, no_offer t, own_link t)

module _ (laws : CycleLaws) (run : Run) (carried : Carried) {heard : Carried} (alone : IsRunAs run carried heard) (m : ℕ) (is_link : m < length run.domain.links) where
  -- what is queued of a stream is what its gate let pass
  queued_was_taken : (number cycle : ℕ) →
      sum_by (queued_counts laws run carried alone m is_link (of_stream run.domain.overhead number) cycle) (queued run heard (end_of_run run) m) ≤ sum_by
      (taken run.domain number cycle) (policed run heard (end_of_run run) (bridge_of run.domain m))
  queued_was_taken number cycle =
      let b = bridge_of run.domain m in
      subst (λ z. z ≤ sum_by (taken run.domain number cycle) (policed run heard (end_of_run run) b))
      (sym (sum_flat f (λ (p : Policed). queued_by run.domain m p.received p.verdict) (policed run heard (end_of_run run) b)))
      (sum_le_members (λ (p : Policed). sum_by f (queued_by run.domain m p.received p.verdict)) (taken run.domain number cycle)
      (policed run heard (end_of_run run) b) (λ p c. one p.received p.verdict))
    where
      f : QueuedFrame → ℕ
      f = queued_counts laws run carried alone m is_link (of_stream run.domain.overhead number) cycle

      both : (first second : Bool) (v : ℕ) → (if second then (if first then v else 0) else 0) ≡ (if first && second then v else 0)
      both true true v = refl
      both true false v = refl
      both false true v = refl
      both false false v = refl

      one : (x : Received) (v : Verdict) → sum_by f (queued_by run.domain m x v) ≤ taken run.domain number cycle (record { received = x; verdict = v })
      one x v = elim (one_or_none run.domain m x v) [
        | inl r ↦
            le_of_eq (ap (sum_by f) r.3 ∙ zero-add (f (queued_frame run.domain x r.0)) ∙ both (r.0.no == number) (cycle_of run.domain x.at == cycle) (counted_of run.domain.overhead x.octets)
            ∙ ap (λ z. taken run.domain number cycle (record { received = x; verdict = z })) (sym r.1))
        | inr none ↦ omega (arith, ap (sum_by f) none)
      ]

  -- so what the link sends of a stream in a cycle is within its reservation
  pub sent_within : (cycle : ℕ) (row : Row) → Contains (table_of run.tables cycle) row →
      sum_by (sent_counts laws run carried alone m is_link (of_stream run.domain.overhead row.no) (cycle + 1)) (carried m) ≤ row.octets
  sent_within cycle row c = omega (
    arith,
    sent_was_queued laws run carried alone m is_link (of_stream run.domain.overhead row.no) cycle,
    queued_was_taken row.no cycle,
    (facts laws run heard alone.planned (bridge_of run.domain m)).reserved cycle row c,
  )
