-- Each offer arrives at its bridge after the offers before it, so the gates there decide on it what the reservations do.
use Rattle.cqf_model.specs.Table.{reserved_in}
use Rattle.std.proofs.Common.{◌≡◌, ℕ, ◌+◌, ◌<◌, ◌≤◌, ◌∷◌, [], ◌++◌, List, Bool, true, false, not, Option, Some, None, inl, inr, sym, ap, ap₂, ◌∙◌, subst, arith}
use Rattle.std.proofs.Common.{refl, AllPairs, Contains, filter, map, sum_by, length, get_or, eq-eqb, ◌==◌, nat_le, nat_lt, lt-ltb, le-ltb, leb-true, le-leb}
use Rattle.std.proofs.Common.{if◌then◌else◌, append_assoc, append-nil}
use Rattle.std.proofs.lemmas.Bool.{cases_Bool, cases_order, leb-false, lt-leb, cond-true, cond-false, and_from}
use Rattle.std.proofs.lemmas.List.{get_or_default, map-append}
use Rattle.std.proofs.lemmas.List.Elements.{filter-append, Contains-append_right}
use Rattle.cqf_model.specs.declared.frames.Offer.{Offer}
use Rattle.cqf_model.specs.declared.frames.Offered.{Offered}
use Rattle.cqf_model.specs.declared.frames.Reason.{Reason}
use Rattle.cqf_model.specs.declared.frames.Reason.TheVariants.{Unknown, Withdrawn, OtherBridge, Octets}
use Rattle.cqf_units.specs.Timing.{counted_of}
use Rattle.cqf_model.specs.declared.topology.Row.{Row}
use Rattle.cqf_model.specs.Domain.{Domain, enters, is_text}
use Rattle.cqf_lists.specs.Lists.{each_below}
use Rattle.cqf_model.specs.Network.{IsLoss}
use Rattle.cqf_model.specs.Run.{Run}
use Rattle.cqf_model.specs.Table.{AreOrderly, begins_at, is_live, table_of}
use Rattle.cqf_model.specs.Policing.{Ingress, AtEdge, Relayed, Carried, Received, Policed, Verdict, Queued, DroppedFor, LacksRow, ExceedsGate, edge_verdict}
use Rattle.cqf_model.specs.Policing.{is_offered_at, numbered, offer_received, offered_at, police, police_all, received_at, received_before, relayed_at}
use Rattle.cqf_model.specs.Policing.{sent_received, whole_at, within_gate}
use Rattle.cqf_model.specs.Shift.{IsCovered, IsReason, IsUncovered, asked_with, offer_cycle, offers_at, offers_before, row_for}
use Rattle.cqf_model.specs.Promise.{IsDecided}
use Rattle.cqf_model.proofs.Policing.{police_more}
use Rattle.cqf_laws_shift.specs.Edge.{EdgeIsCovered, GateIsReservation}
use Rattle.cqf_lists.proofs.Members.{contains_here, contains_cases, contains_none, contains_from_map, contains_from_filter, find_member, parted_at}
use Rattle.cqf_lists.proofs.EachBelow.{contains_from_below, filter_below, filter_each, filter_none, filter_twice, map_below, parted_below, same_below}
use Rattle.cqf_lists.proofs.Pairs.{pairs_across, pairs_head, pairs_second}
use Rattle.cqf_lists.proofs.Sums.{sum_map, sum_two}
use Rattle.cqf_laws_shift.proofs.Came.{came, policed, numbers_ascend, offered_counts, offers_single, IsOfferedHere}
use Rattle.cqf_laws_shift.proofs.Covered.{is_offered, octets_are_taken}
use Rattle.cqf_laws_shift.proofs.Policing.{received_list}
use Rattle.cqf_laws_shift.proofs.Verdicts.{edge_no_loss, edge_passes, edge_queued}

-- whether a frame was offered, not brought by a link
abbrev keep : Received → Bool
keep x = is_offered x.ingress

-- no link brings an offer
no_relayed : (d : Domain) (carried : Carried) (bridge t n : ℕ) → filter keep (each_below (relayed_at d carried bridge t) n) ≡ []
no_relayed d carried bridge t n =
    filter_none keep (each_below (relayed_at d carried bridge t) n)
    (λ x c. let r = contains_from_below (relayed_at d carried bridge t) n x c in of_link r.0 x r.2)
  where
    -- what a link brings at an instant was not offered
    of_link : (m : ℕ) (x : Received) → Contains (relayed_at d carried bridge t m) x → keep x ≡ false
    of_link m x c = elim (cases_Bool (enters d m bridge)) [
      | inl e ↦
          let r = contains_from_map (sent_received d m) (filter (λ sent. whole_at d m sent == t) (carried m)) x
          (subst (λ z. Contains z x) (cond-true (enters d m bridge)
          (map (sent_received d m) (filter (λ sent. whole_at d m sent == t) (carried m))) [] e) c) in
          ap keep (sym r.2)
      | inr e ↦ absurd (contains_none x
          (subst (λ z. Contains z x) (cond-false (enters d m bridge) (map (sent_received d m) (filter (λ sent. whole_at d m sent == t) (carried m))) [] e) c))
    ]

-- what is made of offers was offered
each_offer : (xs : List Offered) → filter keep (map offer_received xs) ≡ map offer_received xs
each_offer xs = filter_each keep (map offer_received xs) (λ x c. let r = contains_from_map offer_received xs x c in ap keep (sym r.2))

-- the offers among all that arrives at a bridge
pub offers_received : (run : Run) (carried : Carried) (bridge end : ℕ) →
    filter keep (received_before run carried bridge end) ≡ each_below (offered_at run.offers bridge) end
offers_received run carried bridge end =
    filter_below keep (received_at run carried bridge) end
    ∙ same_below (λ t. filter keep (received_at run carried bridge t)) (offered_at run.offers bridge) end (λ t l.
    filter-append keep (each_below (relayed_at run.domain carried bridge t) (length run.domain.links)) (offered_at run.offers bridge t)
    ∙ ap₂ (λ a b. a ++ b) (no_relayed run.domain carried bridge t (length run.domain.links))
    (each_offer (filter (is_offered_at bridge t) (numbered run.offers))))

module _ (offers : List Offer) (x : Offered) where
  -- the instant of the offer
  abbrev t : ℕ
  t = x.offer.at.0

  -- its bridge
  abbrev bridge : ℕ
  bridge = x.offer.bridge

  -- whether an offer is made at its bridge at its instant
  abbrev together : Offered → Bool
  together y = is_offered_at bridge t y

  -- whether an offer is made at its bridge
  abbrev at_bridge : Offered → Bool
  at_bridge y = y.offer.bridge == bridge

  -- whether an offer is made at its instant
  abbrev at_instant : Offered → Bool
  at_instant y = y.offer.at.0 == t

  -- whether an offer has a smaller number
  abbrev smaller : Offered → Bool
  smaller y = nat_lt y.frame x.frame

  -- among the offers at its instant, those of a smaller number are those before it in the list
  pub smaller_before : (before after : List Offered) → numbered offers ≡ before ++ (x ∷ after) → filter smaller (offers_at offers t) ≡ filter at_instant before
  smaller_before before after parts =
      ap (λ z. filter smaller (filter at_instant z)) parts
      ∙ ap (filter smaller) (filter-append at_instant before (x ∷ after))
      ∙ filter-append smaller (filter at_instant before) (filter at_instant (x ∷ after))
      ∙ ap₂ (λ a b. a ++ b)
      (filter_each smaller (filter at_instant before)
      (λ y c. lt-ltb y.frame x.frame (ascending y x (contains_from_filter at_instant before y c).0 (contains_here x after))))
      (filter_none smaller (filter at_instant (x ∷ after)) (λ y c. le-ltb y.frame x.frame (following y (contains_from_filter at_instant (x ∷ after) y c).0)))
      ∙ append-nil (filter at_instant before)
    where
      ascending : (a b : Offered) → Contains before a → Contains (x ∷ after) b → a.frame < b.frame
      ascending a b = pairs_across (λ (a b : Offered). a.frame < b.frame) before (x ∷ after) a b
          (subst (λ z. AllPairs (λ (a b : Offered). a.frame < b.frame) z) parts (numbers_ascend offers))

      following : (y : Offered) → Contains (x ∷ after) y → x.frame ≤ y.frame
      following y c = elim (contains_cases x after y c) [
        | inl e ↦ omega (arith, ap (λ (z : Offered). z.frame) e)
        | inr h ↦
            let less : x.frame < y.frame =
            pairs_head (λ (a b : Offered). a.frame < b.frame) x after y
            (pairs_second (λ (a b : Offered). a.frame < b.frame) before (x ∷ after)
            (subst (λ z. AllPairs (λ (a b : Offered). a.frame < b.frame) z) parts (numbers_ascend offers))) h in
            omega (arith, less)
      ]

  -- the offers before it, among those at its bridge
  pub offers_before_here : (before after : List Offered) → numbered offers ≡ before ++ (x ∷ after) →
      map offer_received (filter at_bridge (offers_before offers x)) ≡ each_below (offered_at offers bridge) t ++ map offer_received (filter together before)
  offers_before_here before after parts =
      ap (map offer_received) (filter-append at_bridge (each_below (offers_at offers) t) (filter smaller (offers_at offers t)))
      ∙ map-append offer_received (filter at_bridge (each_below (offers_at offers) t)) (filter at_bridge (filter smaller (offers_at offers t)))
      ∙ ap₂ (λ a b. a ++ b) earlier same_instant
    where
      earlier : map offer_received (filter at_bridge (each_below (offers_at offers) t)) ≡ each_below (offered_at offers bridge) t
      earlier =
          ap (map offer_received) (filter_below at_bridge (offers_at offers) t)
          ∙ map_below offer_received (λ s. filter at_bridge (offers_at offers s)) t
          ∙ same_below (λ s. map offer_received (filter at_bridge (offers_at offers s))) (offered_at offers bridge) t (λ s l.
          ap (map offer_received) (filter_twice at_bridge (λ (y : Offered). y.offer.at.0 == s) (numbered offers)))

      same_instant : map offer_received (filter at_bridge (filter smaller (offers_at offers t))) ≡ map offer_received (filter together before)
      same_instant = ap (λ z. map offer_received (filter at_bridge z)) (smaller_before before after parts)
          ∙ ap (map offer_received) (filter_twice at_bridge at_instant before)

-- an offer arrives after exactly the offers before it at its bridge, besides relayed frames
pub record ComesAfter (run : Run) (carried : Carried) (end : ℕ) (x : Offered) : Type 0 where
  pub before : List Received
  pub after : List Received
  pub parts : received_before run carried x.offer.bridge end ≡ before ++ (offer_received x ∷ after)
  pub offers : filter keep before ≡ map offer_received (filter (λ (y : Offered). y.offer.bridge == x.offer.bridge) (offers_before run.offers x))

-- this holds for each offer before the end
pub comes_after : (run : Run) (carried : Carried) (end : ℕ) (x : Offered) → Contains (numbered run.offers) x → x.offer.at.0 < end →
    ComesAfter run carried end x
comes_after run carried end x inside early = record {
  before = (each_below f t ++ relayed) ++ map offer_received (filter together first);
  after = map offer_received (filter together second) ++ rest.0;
  parts = rest.1 ∙ ap (λ z. each_below f t ++ ((relayed ++ z) ++ rest.0)) at_once
      ∙ joined (each_below f t) relayed (map offer_received (filter together first)) (offer_received x) (map offer_received (filter together second)) rest.0;
  offers =
      filter-append keep (each_below f t ++ relayed) (map offer_received (filter together first))
      ∙ ap₂ (λ a b. a ++ b)
      (filter-append keep (each_below f t) relayed
      ∙ ap₂ (λ a b. a ++ b) (offers_received run carried bridge t) (no_relayed run.domain carried bridge t (length run.domain.links))
      ∙ append-nil (each_below (offered_at run.offers bridge) t))
      (each_offer (filter together first))
      ∙ sym (offers_before_here run.offers x first second split.2);
}
  where
    -- the offer's instant
    t : ℕ
    t = x.offer.at.0

    -- the offer's bridge
    bridge : ℕ
    bridge = x.offer.bridge

    -- what arrives at that bridge at an instant
    f : ℕ → List Received
    f = received_at run carried bridge

    -- what the links bring there at the offer's instant
    relayed : List Received
    relayed = each_below (relayed_at run.domain carried bridge t) (length run.domain.links)

    -- whether an offer is made there at that instant
    together : Offered → Bool
    together y = is_offered_at bridge t y

    -- the offers of the list before this one, and those after it
    split : (before after : List Offered) × (numbered run.offers ≡ before ++ (x ∷ after))
    split = parted_at (numbered run.offers) x inside

    -- those before it
    first : List Offered
    first = split.0

    -- those after it
    second : List Offered
    second = split.1

    -- what arrives before the end is what arrives before the instant, then at it, then after it
    rest : (after : List Received) × (each_below f end ≡ each_below f t ++ (f t ++ after))
    rest = parted_below f t end early

    -- the offer itself is made there at that instant
    passes : together x ≡ true
    passes = and_from (x.offer.bridge == bridge) (x.offer.at.0 == t) (eq-eqb bridge bridge refl) (eq-eqb t t refl)

    -- what is offered there at that instant is what the list has before the offer, the offer, and what the list has after it
    at_once : offered_at run.offers bridge t ≡ map offer_received (filter together first) ++ (offer_received x ∷ map offer_received (filter together second))
    at_once =
        ap (λ z. map offer_received (filter together z)) split.2
        ∙ ap (map offer_received) (filter-append together first (x ∷ second))
        ∙ map-append offer_received (filter together first) (filter together (x ∷ second))
        ∙ ap (λ z. map offer_received (filter together first) ++ map offer_received z)
        (cond-true (together x) (x ∷ filter together second) (filter together second) passes)

    -- concatenation is associative around an element
    joined : (a b c : List Received) (y : Received) (e r : List Received) → a ++ ((b ++ (c ++ (y ∷ e))) ++ r) ≡ ((a ++ b) ++ c) ++ (y ∷ (e ++ r))
    joined a b c y e r = simp append_assoc

-- the verdict on the offer, by only the offers before it
abbrev pub judged : Run → Offered → Verdict
judged run x = edge_verdict run.domain x.offer.bridge (offer_cycle run.domain x) (λ row. nat_le (asked_with run.domain run.offers x row) (reserved_in row 0 (offer_cycle run.domain x)))
    (row_for run.domain run.tables x)

-- the verdict at the edge by a row, by whether it is live, begins here and has the octets left
abbrev edge_by : Row → Bool → Bool → Bool → Verdict
edge_by row live here fits =
    if not live then DroppedFor Withdrawn else (if not here then DroppedFor OtherBridge else (if not fits then DroppedFor Octets else Queued row))

-- two tests that agree on each row that is live and begins here give the same verdict
edge_same : (d : Domain) (bridge cycle : ℕ) (one two : Row → Bool) (found : Option Row) →
    ((row : Row) → found ≡ Some row → is_live row cycle ≡ true → begins_at d row bridge ≡ true → one row ≡ two row) →
    edge_verdict d bridge cycle one found ≡ edge_verdict d bridge cycle two found
edge_same d at cycle one two None same = refl
edge_same d at cycle one two (Some row) same = choice (is_live row cycle) (begins_at d row at) (one row) (two row) (same row refl)
  where
    -- two tests that agree if the row is live and begins here give the same verdict
    choice : (live here a b : Bool) → (live ≡ true → here ≡ true → a ≡ b) → edge_by row live here a ≡ edge_by row live here b
    choice true true a b e = ap (edge_by row true true) (e refl refl)
    choice true false a b e = refl
    choice false here a b e = refl

module _ (run : Run) (x : Offered) where
  -- the run's domain
  abbrev d : Domain
  d = run.domain

  -- the offer's cycle
  abbrev cycle : ℕ
  cycle = offer_cycle run.domain x

  -- whether a row has the octets left that the offer requires
  abbrev fits : Row → Bool
  fits row = nat_le (asked_with run.domain run.offers x row) (reserved_in row 0 (offer_cycle run.domain x))

  -- if the verdict lets the offer go on, the offer is covered
  pub judged_queued : (row : Row) → Contains (numbered run.offers) x → judged run x ≡ Queued row → IsCovered run x row
  judged_queued row inside e =
      let q = edge_queued d x.offer.bridge cycle fits (row_for d run.tables x) row e in
      record {
        offered = inside;
        named = q.0.is;
        live = q.0.live;
        first_bridge = q.0.here;
        within = leb-true (asked_with d run.offers x row) (reserved_in row 0 cycle) q.1;
      }

  -- and a covered offer has such a verdict
  pub covered_judged : (row : Row) → IsCovered run x row → judged run x ≡ Queued row
  covered_judged row covered =
      edge_passes d x.offer.bridge cycle fits (row_for d run.tables x) row
      (record { is = covered.named; live = covered.live; here = covered.first_bridge })
      (le-leb (asked_with d run.offers x row) (reserved_in row 0 cycle) covered.within)

  -- if the verdict drops the offer, the offer isn't covered, for that reason
  pub judged_dropped : (reason : Reason) → Contains (numbered run.offers) x → judged run x ≡ DroppedFor reason → IsUncovered run x reason
  judged_dropped reason inside e = record { offered = inside; is_reason = go (row_for run.domain run.tables x) refl e }
    where
      -- if the row that the offer names leads to a drop, the drop's reason is the first that applies
      choice : (row : Row) (live here short : Bool) → row_for d run.tables x ≡ Some row → is_live row cycle ≡ live → begins_at d row x.offer.bridge ≡ here →
          fits row ≡ short → edge_by row live here short ≡ DroppedFor reason → IsReason run x reason
      choice row true true true named a b c e = absurd (cc)
      choice row true true false named a b c e =
          let is : Octets ≡ reason = cc in
          subst (IsReason run x) is (row, record { named = named; live = a; first_bridge = b; short = leb-false (asked_with d run.offers x row) (reserved_in row 0 cycle) c })
      choice row true false short named a b c e =
          let is : OtherBridge ≡ reason = cc in
          subst (IsReason run x) is (row, record { named = named; live = a; elsewhere = b })
      choice row false here short named a b c e =
          let is : Withdrawn ≡ reason = cc in
          subst (IsReason run x) is (row, record { named = named; not_live = a })

      -- this holds whether the offer names a row or not
      go : (found : Option Row) → row_for d run.tables x ≡ found → edge_verdict d x.offer.bridge cycle fits found ≡ DroppedFor reason → IsReason run x reason
      go None named e = let is : Unknown ≡ reason = cc in subst (IsReason run x) is named
      go (Some row) named e = choice row (is_live row cycle) (begins_at d row x.offer.bridge) (fits row) named refl refl refl e

  -- and an offer that isn't covered has such a verdict
  pub uncovered_judged : (reason : Reason) → IsUncovered run x reason → judged run x ≡ DroppedFor reason
  uncovered_judged reason uncovered = go reason uncovered.is_reason
    where
      -- the verdict is the edge's by the row that the offer names
      at_row : (row : Row) → row_for d run.tables x ≡ Some row → judged run x ≡ edge_verdict d x.offer.bridge cycle fits (Some row)
      at_row row named = ap (edge_verdict d x.offer.bridge cycle fits) named

      -- the offer is dropped for the first reason that applies
      go : (reason : Reason) → IsReason run x reason → judged run x ≡ DroppedFor reason
      go Unknown named = ap (edge_verdict d x.offer.bridge cycle fits) named
      go Withdrawn (row, r) = at_row row r.named ∙ ap (λ z. edge_by row z (begins_at d row x.offer.bridge) (fits row)) r.not_live
      go OtherBridge (row, r) = at_row row r.named ∙ ap₂ (λ y z. edge_by row y z (fits row)) r.live r.elsewhere
      go Octets (row, r) = at_row row r.named ∙ ap₂ (λ y z. edge_by row y z (fits row)) r.live r.first_bridge
          ∙ ap (edge_by row true true) (lt-leb (asked_with d run.offers x row) (reserved_in row 0 cycle) r.short)

-- so the verdict is what the definitions say about the offer
pub is_decided : (run : Run) (x : Offered) → Contains (numbered run.offers) x → IsDecided run x (judged run x)
is_decided run x inside = go (judged run x) refl
  where
    -- the verdict on an offer is no loss
    no_loss : IsLoss (judged run x) → ⊥
    no_loss = edge_no_loss run.domain x.offer.bridge (offer_cycle run.domain x) (λ row. nat_le (asked_with run.domain run.offers x row) (reserved_in row 0 (offer_cycle run.domain x)))
        (row_for run.domain run.tables x)

    -- this holds for each possible verdict
    go : (v : Verdict) → judged run x ≡ v → IsDecided run x v
    go (Queued row) e = judged_queued run x row inside e
    go (DroppedFor reason) e = judged_dropped run x reason inside e
    go LacksRow e = no_loss (subst IsLoss (sym e) tt)
    go ExceedsGate e = no_loss (subst IsLoss (sym e) tt)

module _ (reserves : GateIsReservation) (run : Run) (carried : Carried) (end : ℕ) (some : 0 < run.domain.cycle_time)
    (orderly : AreOrderly run.domain run.tables) where
  -- each offer before the end has this verdict at its bridge
  pub offer_policed : (x : Offered) → Contains (numbered run.offers) x → x.offer.at.0 < end →
      Contains (policed run carried end x.offer.bridge) (record { received = offer_received x; verdict = judged run x })
  offer_policed x inside early =
      subst (λ v. Contains (policed run carried end bridge) (record { received = offer_received x; verdict = v })) same
      (subst (λ z. Contains (police_all d run.tables bridge [] z) p) (sym b.parts)
      (subst (λ z. Contains z p) (sym (police_more d run.tables bridge [] b.before (offer_received x ∷ b.after)))
      (Contains-append_right earlier (police_all d run.tables bridge earlier (offer_received x ∷ b.after)) p
      (contains_here p (police_all d run.tables bridge (earlier ++ p ∷ []) b.after)))))
    where
      d : Domain
      d = run.domain

      bridge : ℕ
      bridge = x.offer.bridge

      cycle : ℕ
      cycle = offer_cycle d x

      b : ComesAfter run carried end x
      b = comes_after run carried end x inside early

      earlier : List Policed
      earlier = police_all d run.tables bridge [] b.before

      p : Policed
      p = police d run.tables bridge earlier (offer_received x)

      same : p.verdict ≡ judged run x
      same = edge_same d bridge cycle (λ row. within_gate d earlier row (offer_received x)) (λ row. nat_le (asked_with d run.offers x row) (reserved_in row 0 cycle))
          (row_for d run.tables x)
          (λ row found live here.
          let member = (find_member (λ (r : Row). is_text r.name x.offer.stream) (table_of run.tables cycle) row found).0 in
          reserves d earlier row (offer_received x) some
          ∙ ap (λ z. nat_le (z + counted_of d.overhead x.offer.octets) (reserved_in row 0 cycle))
          (octets_are_taken reserves d some run.tables orderly bridge cycle row member live here b.before (offers_before run.offers x) b.offers))

  -- and no other frame there is that offer
  one_offered : (bridge : ℕ) (p q : Policed) → Contains (policed run carried end bridge) p → Contains (policed run carried end bridge) q →
      p.received ≡ q.received → is_offered p.received.ingress ≡ true → p ≡ q
  one_offered bridge p q cp cq same offered = elim (cases_order cp.0 cq.0) [
    | inl e ↦ sym cp.2 ∙ ap (λ z. get_or ps z p) e ∙ at_q
    | inr o ↦ elim o [
      | inl less ↦ absurd (omega (arith, single, sum_two f ps cp.0 cq.0 p less cq.1, ap f cp.2, ap f at_q, one_p, one_q))
      | inr more ↦ absurd (omega (arith, single, sum_two f ps cq.0 cp.0 p more cp.1, ap f cp.2, ap f at_q, one_p, one_q))
    ]
  ]
    where
      ps : List Policed
      ps = policed run carried end bridge

      f : Policed → ℕ
      f r = offered_counts p.received.frame r.received.ingress r.received.frame

      at_q : get_or ps cq.0 p ≡ q
      at_q = get_or_default ps cq.0 p q cq.1 ∙ cq.2

      counts_one : (ingress : Ingress) (number : ℕ) → is_offered ingress ≡ true → offered_counts number ingress number ≡ 1
      counts_one (AtEdge name) number e = cond-true {A = ℕ} (number == number) 1 0 (eq-eqb number number refl)
      counts_one (Relayed m stream) number e = absurd (cc)

      one_p : f p ≡ 1
      one_p = counts_one p.received.ingress p.received.frame offered

      one_q : f q ≡ 1
      one_q = ap (λ (z : Received). offered_counts p.received.frame z.ingress z.frame) (sym same) ∙ one_p

      single : sum_by f ps ≤ 1
      single =
          subst (λ z. z ≤ 1) (sum_map (λ (x : Received). offered_counts p.received.frame x.ingress x.frame) (λ (r : Policed). r.received) ps)
          (subst (λ z. sum_by (λ (x : Received). offered_counts p.received.frame x.ingress x.frame) z ≤ 1)
          (sym (received_list run.domain run.tables bridge [] (came run carried end bridge)))
          (offers_single run carried end bridge p.received.frame))

  -- so a frame that was offered here has the verdict of its offer
  pub offered_judged : (bridge : ℕ) (p : Policed) → Contains (policed run carried end bridge) p → (o : IsOfferedHere run carried end bridge p.received) →
      p.verdict ≡ judged run o.offered
  offered_judged bridge p c o =
      let q : Policed = record { received = offer_received o.offered; verdict = judged run o.offered } in
      let there = subst (λ z. Contains (policed run carried end z) q) o.here (offer_policed o.offered o.inside o.early) in
      ap (λ (z : Policed). z.verdict) (one_offered bridge p q c there (sym o.is) (ap (λ (z : Received). is_offered z.ingress) (sym o.is)))

-- the gates decide on offers what the reservations do
pub edge_is_covered : GateIsReservation → EdgeIsCovered
edge_is_covered reserves run carried end x some orderly inside early =
    (judged run x, record { come = offer_policed reserves run carried end some orderly x inside early; decided = is_decided run x inside })
