-- What arrives at a bridge and to its ports has its instant, and later arrivals follow earlier ones.
use Rattle.std.proofs.Common.{◌≡◌, ℕ, ◌+◌, ◌*◌, ◌<◌, ◌≤◌, List, length, sym, ap, ◌∙◌, inl, inr, arith, eqb-true, Contains}
use Rattle.std.specs.Prelude.{[], ◌∷◌, map, filter, ◌==◌}
use Rattle.std.proofs.lemmas.Bool.{and_parts}
use Rattle.std.proofs.lemmas.List.Concat.{flat_map-append}
use Rattle.std.proofs.lemmas.List.Elements.{Contains-append_cases}
use Rattle.std.specs.List.{list_any}
use Rattle.cqf_lists.specs.Lists.{each_below}
use Rattle.cqf_lists.proofs.Members.{contains_from_filter, contains_from_flat, contains_from_map, contains_none, contains_one}
use Rattle.cqf_lists.proofs.EachBelow.{contains_from_below}
use Rattle.cqf_lists.proofs.Made.{contains_if}
use Rattle.cqf_lists.proofs.Fronts.{Front, each_front}
use Rattle.cqf_units.proofs.Cycles.{cycle_from}
use Rattle.cqf_model.specs.declared.frames.Background.{Background}
use Rattle.cqf_model.specs.declared.frames.Offer.{Offer}
use Rattle.cqf_model.specs.declared.frames.Sent.{Sent}
use Rattle.cqf_model.specs.Domain.{Domain, bridge_of, cycle_of, enters}
use Rattle.cqf_model.specs.Run.{Run}
use Rattle.cqf_model.specs.Table.{goes_to}
use Rattle.cqf_model.specs.Policing.{Carried, DroppedFor, ExceedsGate, LacksRow, Policed, Queued, Received, Verdict, came_by, is_offered_at, numbered}
use Rattle.cqf_model.specs.Policing.{offer_received, offered_at, police_all, policed_before, received_at, received_before, relayed_at, sent_received, whole_at}
use Rattle.cqf_model.specs.Network.{QueuedFrame, backed_at, backed_frame, backed_in, comes_in, is_backed_at, numbered_background, queued_before, queued_by}
use Rattle.cqf_model.specs.Network.{queued_frame, queued_in, queued_to}
use Rattle.cqf_model.proofs.Policing.{police_member, police_more}

-- a frame that a link brings is whole at the instant
pub relayed_when : (d : Domain) (carried : Carried) (bridge t m : ℕ) (x : Received) → Contains (relayed_at d carried bridge t m) x → x.at ≡ t
relayed_when d carried bridge t m x h =
    let whole = λ (sent : Sent). whole_at d m sent == t in
    let k = contains_if (enters d m bridge) (map (sent_received d m) (filter whole (carried m))) x h in
    let w = contains_from_map (sent_received d m) (filter whole (carried m)) x k in
    let at : whole_at d m w.0 ≡ x.at = ap (λ (y : Received). y.at) w.2 in
    sym at ∙ eqb-true (whole_at d m w.0) t (contains_from_filter whole (carried m) w.0 w.1).1

-- a frame of an offer comes at the offer's instant
pub offered_when : (offers : List Offer) (bridge t : ℕ) (x : Received) → Contains (offered_at offers bridge t) x → x.at ≡ t
offered_when offers bridge t x h =
    let w = contains_from_map offer_received (filter (is_offered_at bridge t) (numbered offers)) x h in
    let k = (contains_from_filter (is_offered_at bridge t) (numbered offers) w.0 w.1).1 in
    let at : w.0.offer.at.0 ≡ x.at = ap (λ (y : Received). y.at) w.2 in
    sym at ∙ eqb-true w.0.offer.at.0 t (and_parts (w.0.offer.bridge == bridge) (w.0.offer.at.0 == t) k).1

-- a queued frame comes when it was whole at the bridge
pub queued_when : (d : Domain) (l : ℕ) (x : Received) (verdict : Verdict) (q : QueuedFrame) → Contains (queued_by d l x verdict) q → q.arrival.at.0 ≡ x.at
queued_when d l x (Queued row) q h =
    let k = contains_if (list_any (λ next. next == l) (goes_to row (came_by x.ingress))) (queued_frame d x row ∷ []) q h in
    sym (ap (λ (y : QueuedFrame). y.arrival.at.0) (contains_one (queued_frame d x row) q k))
queued_when d l x (DroppedFor reason) q h = absurd (contains_none q h)
queued_when d l x LacksRow q h = absurd (contains_none q h)
queued_when d l x ExceedsGate q h = absurd (contains_none q h)

module _ (run : Run) (carried : Carried) (bridge : ℕ) where
  -- what comes at an instant has that instant
  pub received_when : (t : ℕ) (x : Received) → Contains (received_at run carried bridge t) x → x.at ≡ t
  received_when t x h =
      let relayed = relayed_at run.domain carried bridge t in
      elim (Contains-append_cases (each_below relayed (length run.domain.links)) (offered_at run.offers bridge t) x h) [
        | inl k ↦ let r = contains_from_below relayed (length run.domain.links) x k in relayed_when run.domain carried bridge t r.0 x r.2
        | inr k ↦ offered_when run.offers bridge t x k
      ]

  -- what comes before an instant is earlier
  pub before_when : (n : ℕ) (x : Received) → Contains (received_before run carried bridge n) x → x.at < n
  before_when n x h =
      let r = contains_from_below (received_at run carried bridge) n x h in omega (arith, r.1, received_when r.0 x r.2)

  -- the verdicts at a bridge before an instant are the front of those before a later one, and the rest are on later frames
  pub policed_front : (n m : ℕ) → n ≤ m →
      Front (policed_before run carried bridge m) (policed_before run carried bridge n) (λ p. (n ≤ p.received.at) × (p.received.at < m))
  policed_front n m le =
      let d = run.domain in
      let r = each_front (received_at run carried bridge) n m le in
      let front = received_before run carried bridge n in
      let earlier = police_all d run.tables bridge [] front in
      record {
        rest = police_all d run.tables bridge earlier r.rest;
        is = ap (λ (xs : List Received). police_all d run.tables bridge [] xs) r.is ∙ police_more d run.tables bridge [] front r.rest;
        late = λ p h.
            let k = r.late p.received (police_member d run.tables bridge earlier r.rest p h) in
            let at = received_when k.0 p.received k.3 in
            (omega (arith, k.1, at), omega (arith, k.2, at));
      }

-- a port's queue before an instant is the front of its queue before a later one, and the rest comes later
pub queued_front : (run : Run) (carried : Carried) (l n m : ℕ) → n ≤ m →
    Front (queued_before run carried l m) (queued_before run carried l n) (λ q. n ≤ q.arrival.at.0)
queued_front run carried l n m le =
    let d = run.domain in
    let by = λ (p : Policed). queued_by d l p.received p.verdict in
    let front = policed_before run carried (bridge_of d l) n in
    let f = policed_front run carried (bridge_of d l) n m le in
    record {
      rest = queued_to d l f.rest;
      is = ap (queued_to d l) f.is ∙ flat_map-append by front f.rest;
      late = λ q h.
          let w = contains_from_flat by f.rest q h in
          omega (arith, queued_when d l w.0.received w.0.verdict q w.2, (f.late w.0 w.1).0);
    }

-- a background frame comes at its instant
pub backed_when : (background : List Background) (l t : ℕ) (q : QueuedFrame) → Contains (backed_at background l t) q → q.arrival.at.0 ≡ t
backed_when background l t q h =
    let w = contains_from_map backed_frame (filter (is_backed_at l t) (numbered_background background)) q h in
    let k = (contains_from_filter (is_backed_at l t) (numbered_background background) w.0 w.1).1 in
    let at : w.0.background.at.0 ≡ q.arrival.at.0 = ap (λ (y : QueuedFrame). y.arrival.at.0) w.2 in
    sym at ∙ eqb-true w.0.background.at.0 t (and_parts (w.0.background.link == l) (w.0.background.at.0 == t) k).1

-- those of a cycle come from its beginning on
pub backed_in_late : (d : Domain) (background : List Background) (l cycle : ℕ) (q : QueuedFrame) → Contains (backed_in d background l cycle) q →
    cycle * d.cycle_time ≤ q.arrival.at.0
backed_in_late d background l cycle q h =
    let w = contains_from_below (λ offset. backed_at background l (cycle * d.cycle_time + offset)) d.cycle_time q h in
    omega (arith, backed_when background l (cycle * d.cycle_time + w.0) q w.2)

-- so do the streams' frames that are queued in a cycle
pub queued_in_late : (run : Run) (carried : Carried) (l cycle : ℕ) (q : QueuedFrame) → Contains (queued_in run carried l cycle) q →
    cycle * run.domain.cycle_time ≤ q.arrival.at.0
queued_in_late run carried l cycle q h =
    let d = run.domain in
    let at = q.arrival.at.0 in
    let of_cycle = λ (x : QueuedFrame). cycle_of d x.arrival.at.0 == cycle in
    let is : cycle_of d at ≡ cycle =
    eqb-true (cycle_of d at) cycle (contains_from_filter of_cycle (queued_before run carried l ((cycle + 1) * d.cycle_time)) q h).1 in
    omega (arith, cycle_from d.cycle_time at, ap (λ (c : ℕ). c * d.cycle_time) is)

-- so what arrives at a port in a cycle comes from its beginning on
pub comes_in_late : (run : Run) (carried : Carried) (l cycle : ℕ) (q : QueuedFrame) → Contains (comes_in run carried l cycle) q →
    cycle * run.domain.cycle_time ≤ q.arrival.at.0
comes_in_late run carried l cycle q h =
    elim (Contains-append_cases (backed_in run.domain run.background l cycle) (queued_in run carried l cycle) q h) [
      | inl k ↦ backed_in_late run.domain run.background l cycle q k
      | inr k ↦ queued_in_late run carried l cycle q k
    ]
