-- No frame is at one port twice.
use Rattle.std.proofs.Common.{◌≡◌, ℕ, zero, suc, ◌+◌, ◌/◌, ◌<◌, ◌≤◌, ◌⊎◌, List, Some, None, inl, inr, sym, ap, ap₂, ◌∙◌, subst, arith, refl, Contains, sum_by}
use Rattle.std.proofs.Common.{length, get_or, eq-eqb, eqb-true, ◌==◌, if◌then◌else◌, le_trans, zero-add}
use Rattle.std.proofs.lemmas.Bool.{cases_Bool, cases_order, cond-true, cond-false}
use Rattle.std.proofs.lemmas.Option.{same_Some}
use Rattle.cqf_model.specs.declared.frames.Offered.{Offered}
use Rattle.cqf_model.specs.declared.frames.Sent.{Sent}
use Rattle.cqf_model.specs.declared.topology.Row.{Row}
use Rattle.cqf_model.specs.Domain.{Domain, cycle_of, bridge_of}
use Rattle.cqf_model.specs.Run.{Run, end_of_run}
use Rattle.cqf_model.specs.Table.{IsHop}
use Rattle.cqf_model.specs.Policing.{Ingress, AtEdge, Relayed, Carried, Received, Policed, Verdict, Queued, came_by}
use Rattle.cqf_model.specs.Network.{QueuedFrame, queued_frame, queued_by, no_frame}
use Rattle.cqf_model.specs.Shift.{IsCovered, offer_cycle, row_for}
use Rattle.cqf_laws_shift.specs.Alone.{IsRunAs}
use Rattle.cqf_lists.proofs.Sums.{sum_map, sum_flat, sum_le_members, sum_some, sum_two}
use Rattle.cqf_laws_shift.proofs.Came.{IsRelayed, came, came_how, offered_counts, offers_single, one_number, policed, queued}
use Rattle.cqf_laws_shift.proofs.CycleLaws.{CycleLaws}
use Rattle.cqf_laws_shift.proofs.Fed.{facts}
use Rattle.cqf_laws_shift.proofs.Policing.{has_come}
use Rattle.cqf_laws_shift.proofs.Queues.{one_or_none}
use Rattle.cqf_laws_shift.proofs.Fed.{number_of}
use Rattle.cqf_laws_shift.proofs.Runs.{heard_timed, sends, sent_at, sent_for}
use Rattle.cqf_laws_shift.proofs.SentSums.{Weight, arrives_within, arriving_counts, by_link, queued_counts, sent_counts, sent_was_queued}
use Rattle.cqf_laws_shift.proofs.Trees.{GoesBy, one_hop_number, one_ingress, same_goes}
use Rattle.cqf_laws_shift.proofs.Paths.{covered_tree, on_path, queued_member, same_stream}

-- a frame counts if it has this number
abbrev pub of_frame : ℕ → Weight
of_frame frame number stream octets = if number == frame then 1 else 0

-- an offer of this number counts
pub counts_offer : (frame : ℕ) (ingress : Ingress) (number : ℕ) → came_by ingress ≡ None → number ≡ frame → offered_counts frame ingress number ≡ 1
counts_offer frame (AtEdge name) number e is = cond-true {A = ℕ} (number == frame) 1 0 (eq-eqb number frame is)
counts_offer frame (Relayed m stream) number e is = absurd (cc)

-- and a frame of this number that came by the link counts
counts_relayed : (frame m octets : ℕ) (ingress : Ingress) (number : ℕ) → came_by ingress ≡ Some m → number ≡ frame →
    by_link m (λ stream. of_frame frame number stream octets) ingress ≡ 1
counts_relayed frame m octets (AtEdge name) number e is = absurd (cc)
counts_relayed frame m octets (Relayed link stream) number e is =
    let same : link ≡ m = same_Some link m e in
    cond-true (link == m) (if number == frame then 1 else 0) 0 (eq-eqb link m same) ∙ cond-true {A = ℕ} (number == frame) 1 0 (eq-eqb number frame is)

module _ (laws : CycleLaws) (run : Run) (carried : Carried) {heard : Carried} (alone : IsRunAs run carried heard) where
  -- the run's domain
  abbrev d : Domain
  d = run.domain

  -- the verdicts on what arrives at a bridge
  abbrev given : ℕ → List Policed
  given b = policed run heard (end_of_run run) b

  -- two covered offers of the same number are the same, covered by the same row
  same_offer : (x y : Offered) (row late : Row) → IsCovered run x row → IsCovered run y late → x.frame ≡ y.frame → (x ≡ y) × (row ≡ late)
  same_offer x y row late first second frames =
      let same = one_number run.offers x y first.offered second.offered frames in
      (same, same_Some row late (sym first.named ∙ ap (row_for d run.tables) same ∙ second.named))

  -- two frames of the same number that are queued to the same link are of the same tree and the same cycle, and came the same way
  pub record AreAlike (p q : Policed) (row late : Row) : Type 0 where
    pub tree : row.tree.items ≡ late.tree.items
    pub cycle : cycle_of run.domain p.received.at ≡ cycle_of run.domain q.received.at
    pub ingress : came_by p.received.ingress ≡ came_by q.received.ingress

  -- this holds for them
  alike : (bridge other m : ℕ) (p q : Policed) (row late : Row) → Contains (given bridge) p → Contains (given other) q → p.verdict ≡ Queued row →
      q.verdict ≡ Queued late → GoesBy row (came_by p.received.ingress) m → GoesBy late (came_by q.received.ingress) m →
      p.received.frame ≡ q.received.frame → AreAlike p q row late
  alike bridge other m p q row late pc qc pv qv pg qg frames =
      let pw = on_path laws run carried alone bridge p row m pc pv pg in
      let qw = on_path laws run carried alone other q late m qc qv qg in
      let one = same_offer pw.x qw.x pw.first_row qw.first_row pw.covered qw.covered (sym pw.frame ∙ frames ∙ qw.frame) in
      let number : row.no ≡ late.no = pw.number ∙ ap (λ (z : Row). z.no) one.1 ∙ sym qw.number in
      let in_p = queued_member laws run carried alone bridge p row pc pv in
      let in_q = queued_member laws run carried alone other q late qc qv in
      let tree = (same_stream laws run carried alone (cycle_of d p.received.at) (cycle_of d q.received.at) row late in_p in_q number).tree in
      let hop_numbers : pw.hop_number ≡ qw.hop_number =
      one_hop_number d pw.first_row (covered_tree laws run carried alone pw.x pw.first_row pw.covered) pw.hop_number qw.hop_number m pw.at_hop_number
      (subst (λ (z : Row). IsHop z qw.hop_number m) (sym one.1) qw.at_hop_number) in
      record {
        tree = tree;
        cycle = omega (arith, pw.cycle, qw.cycle, hop_numbers, ap (offer_cycle d) one.0);
        ingress = one_ingress d row (alone.planned.orderly.trees (cycle_of d p.received.at) row in_p) (came_by p.received.ingress) (came_by q.received.ingress) m pg
            (same_goes late row (came_by q.received.ingress) m (sym tree) qg);
      }

  -- what a frame counts at a port
  abbrev port_counts : (m cycle frame : ℕ) → Policed → ℕ
  port_counts m cycle frame p =
      sum_by (λ (q : QueuedFrame). if cycle_of d q.arrival.at.0 == cycle then of_frame frame q.arrival.frame (number_of q) q.arrival.octets else 0)
      (queued_by d m p.received p.verdict)

  -- a frame that counts is queued to the port, of this number and cycle
  record Counts (m cycle frame : ℕ) (x : Received) (v : Verdict) : Type 0 where
    row : Row
    verdict : v ≡ Queued row
    goes : GoesBy row (came_by x.ingress) m
    in_cycle : cycle_of run.domain x.at ≡ cycle
    is_frame : x.frame ≡ frame
    one : port_counts m cycle frame (record { received = x; verdict = v }) ≡ 1

  -- it counts 0, or 1 for such a frame
  port_value : (m cycle frame : ℕ) (x : Received) (v : Verdict) →
      (port_counts m cycle frame (record { received = x; verdict = v }) ≡ 0) ⊎ Counts m cycle frame x v
  port_value m cycle frame x v =
      let f = λ (q : QueuedFrame). if cycle_of d q.arrival.at.0 == cycle then of_frame frame q.arrival.frame (number_of q) q.arrival.octets else 0 in
      elim (one_or_none d m x v) [
        | inr none ↦ inl (ap (sum_by f) none)
        | inl r ↦
            let one : sum_by f (queued_by d m x v) ≡ f (queued_frame d x r.0) = ap (sum_by f) r.3 ∙ zero-add (f (queued_frame d x r.0)) in
            elim (cases_Bool (cycle_of d x.at == cycle)) [
              | inl c ↦ elim (cases_Bool (x.frame == frame)) [
                | inl e ↦ inr (record {
                  row = r.0;
                  verdict = r.1;
                  goes = r.2;
                  in_cycle = eqb-true (cycle_of d x.at) cycle c;
                  is_frame = eqb-true x.frame frame e;
                  one = one ∙ cond-true (cycle_of d x.at == cycle) (if x.frame == frame then 1 else 0) 0 c ∙ cond-true (x.frame == frame) 1 0 e;
                })
                | inr e ↦ inl (one ∙ cond-true (cycle_of d x.at == cycle) (if x.frame == frame then 1 else 0) 0 c ∙ cond-false (x.frame == frame) 1 0 e)
              ]
              | inr c ↦ inl (one ∙ cond-false (cycle_of d x.at == cycle) (if x.frame == frame then 1 else 0) 0 c)
            ]
      ]

  -- at a port, in a cycle, next to one frame of a number
  module _ (m cycle frame : ℕ) (p0 : Policed) (c0 : Contains (policed run heard (end_of_run run) (bridge_of run.domain m)) p0)
      (n0 : Counts m cycle frame p0.received p0.verdict) where
    -- the bridge of the port
    abbrev b : ℕ
    b = bridge_of run.domain m

    -- what each frame counts is what it counts among those that arrived
    by_received : (h : Received → ℕ) → ((p : Policed) → Contains (given b) p → port_counts m cycle frame p ≤ h p.received) →
        sum_by (port_counts m cycle frame) (given b) ≤ sum_by h (came run heard (end_of_run run) b)
    by_received h each =
        subst (λ z. sum_by (port_counts m cycle frame) (given b) ≤ sum_by h z) (facts laws run heard alone.planned b).in_turn
        (subst (λ z. sum_by (port_counts m cycle frame) (given b) ≤ z) (sym (sum_map h (λ (p : Policed). p.received) (given b)))
        (sum_le_members (port_counts m cycle frame) (λ p. h p.received) (given b) each))

    -- another one came the same way
    came_alike : (p : Policed) → Contains (given b) p → (n : Counts m cycle frame p.received p.verdict) → came_by p.received.ingress ≡ came_by p0.received.ingress
    came_alike p c n = (alike b b m p p0 n.row n0.row c c0 n.verdict n0.verdict n.goes n0.goes (n.is_frame ∙ sym n0.is_frame)).ingress

    -- it came from the edge once
    from_edge : came_by p0.received.ingress ≡ None → sum_by (port_counts m cycle frame) (given b) ≤ 1
    from_edge edge = le_trans (by_received (λ x. offered_counts frame x.ingress x.frame) each) (offers_single run heard (end_of_run run) b frame)
      where
        each : (p : Policed) → Contains (given b) p → port_counts m cycle frame p ≤ offered_counts frame p.received.ingress p.received.frame
        each p c = elim (port_value m cycle frame p.received p.verdict) [
          | inl z ↦ omega (arith, z)
          | inr n ↦ omega (arith, n.one, counts_offer frame p.received.ingress p.received.frame (came_alike p c n ∙ edge) n.is_frame)
        ]

    -- and by a link once, if it was at the port before once
    from_link : IsRelayed run heard (end_of_run run) b p0.received →
        ((before from : ℕ) (l : from < length d.links) → cycle ≡ before + 1 →
        sum_by (queued_counts laws run carried alone from l (of_frame frame) before) (queued run heard (end_of_run run) from) ≤ 1) →
        sum_by (port_counts m cycle frame) (given b) ≤ 1
    from_link r ih =
        let s = heard_timed laws run carried alone r.m r.is_link r.sent r.inside in
        let before = cycle_of d s.0.p.received.at in
        let later : cycle ≡ before + 1 = omega (arith, n0.in_cycle, ap (λ (z : Received). z.at / d.cycle_time) r.is, s.1) in
        let arrivals = by_received (arriving_counts laws run carried alone r.m r.is_link (of_frame frame) cycle) each in
        let sent = arrives_within laws run carried alone r.m r.is_link (of_frame frame) b cycle in
        let was = le_trans (sent_was_queued laws run carried alone r.m r.is_link (of_frame frame) before) (ih before r.m r.is_link later) in
        le_trans arrivals (le_trans sent
        (subst (λ z. sum_by (sent_counts laws run carried alone r.m r.is_link (of_frame frame) z) (carried r.m) ≤ 1) (sym later) was))
      where
        each : (p : Policed) → Contains (given b) p →
            port_counts m cycle frame p ≤ arriving_counts laws run carried alone r.m r.is_link (of_frame frame) cycle p.received
        each p c = elim (port_value m cycle frame p.received p.verdict) [
          | inl z ↦ omega (arith, z)
          | inr n ↦
              let link : came_by p.received.ingress ≡ Some r.m = came_alike p c n ∙ ap (λ (z : Received). came_by z.ingress) (sym r.is) in
              let value : arriving_counts laws run carried alone r.m r.is_link (of_frame frame) cycle p.received ≡ 1 =
              cond-true (cycle_of d p.received.at == cycle) (by_link r.m (λ stream. of_frame frame p.received.frame stream p.received.octets) p.received.ingress) 0
              (eq-eqb (cycle_of d p.received.at) cycle n.in_cycle)
              ∙ counts_relayed frame r.m p.received.octets p.received.ingress p.received.frame link n.is_frame in
              omega (arith, n.one, value)
        ]

  -- so it is at a port once in a cycle, if it was at each port once in the cycle before
  single_step : (cycle m : ℕ) (is_link : m < length d.links) (frame : ℕ) →
      ((before from : ℕ) (l : from < length d.links) → cycle ≡ before + 1 →
      sum_by (queued_counts laws run carried alone from l (of_frame frame) before) (queued run heard (end_of_run run) from) ≤ 1) →
      sum_by (queued_counts laws run carried alone m is_link (of_frame frame) cycle) (queued run heard (end_of_run run) m) ≤ 1
  single_step cycle m is_link frame ih =
      subst (λ z. z ≤ 1) (sym (sum_flat (queued_counts laws run carried alone m is_link (of_frame frame) cycle)
      (λ (p : Policed). queued_by d m p.received p.verdict) (given (bridge_of d m))))
      (elim (sum_some (port_counts m cycle frame) (given (bridge_of d m))) [
        | inl z ↦ omega (arith, z)
        | inr w ↦ elim (port_value m cycle frame w.0.received w.0.verdict) [
          | inl z ↦ absurd (omega (arith, z, w.2))
          | inr n ↦ elim (came_how run heard (end_of_run run) (bridge_of d m) w.0.received
              (has_come d run.tables (bridge_of d m) (came run heard (end_of_run run) (bridge_of d m)) (given (bridge_of d m))
              (facts laws run heard alone.planned (bridge_of d m)) w.0 w.1)) [
                | inl r ↦ from_link m cycle frame w.0 w.1 n r ih
                | inr o ↦ from_edge m cycle frame w.0 w.1 n (ap (λ (z : Received). came_by z.ingress) (sym o.is))
              ]
        ]
      ])

  -- so it is at each port once in a cycle
  pub single : (cycle m : ℕ) (is_link : m < length d.links) (frame : ℕ) →
      sum_by (queued_counts laws run carried alone m is_link (of_frame frame) cycle) (queued run heard (end_of_run run) m) ≤ 1
  single zero m is_link frame = single_step zero m is_link frame (λ before from l e. absurd (omega (arith, e)))
  single (suc cycle) m is_link frame = single_step (suc cycle) m is_link frame (λ before from l e.
      let same : cycle ≡ before = omega (arith, e) in
      subst (λ z. sum_by (queued_counts laws run carried alone from l (of_frame frame) z) (queued run heard (end_of_run run) from) ≤ 1) same
      (single cycle from l frame))

  -- a link sends a frame of one number once
  pub sent_once : (m : ℕ) (is_link : m < length run.domain.links) (a b : Sent) → Contains (carried m) a → Contains (carried m) b → a.frame ≡ b.frame → a ≡ b
  sent_once m is_link a b ca cb frames =
      let bridge = bridge_of d m in
      let sa = sent_for laws run carried alone m is_link a ca in
      let sb = sent_for laws run carried alone m is_link b cb in
      let qa = sa.0.from in
      let qb = sb.0.from in
      let same = alike bridge bridge m qa.p qb.p qa.row qb.row qa.inside qb.inside qa.verdict qb.verdict qa.goes qb.goes
      (sym qa.frame ∙ frames ∙ qb.frame) in
      let cycle = cycle_of d qa.p.received.at in
      let f = queued_counts laws run carried alone m is_link (of_frame a.frame) cycle in
      let limit = single cycle m is_link a.frame in
      let one_a = counts_one cycle a.frame qa.p.received qa.row refl (sym qa.frame) in
      let one_b = counts_one cycle a.frame qb.p.received qb.row (sym same.cycle) (sym qb.frame ∙ sym frames) in
      let at_a : f (get_or (queued run heard (end_of_run run) m) sa.0.index no_frame) ≡ 1 = ap f (sym sa.0.at_index) ∙ one_a in
      let at_b : f (get_or (queued run heard (end_of_run run) m) sb.0.index no_frame) ≡ 1 = ap f (sym sb.0.at_index) ∙ one_b in
      elim (cases_order sa.0.index sb.0.index) [
        | inl indices ↦
            let start = (sends laws run carried alone m is_link).legal.once sb.0.index a.start.0 b.start.0
            (subst (λ z. Contains (sends laws run carried alone m is_link).starts (z, a.start.0)) indices sa.1) sb.1 in
            sym sa.0.is ∙ ap₂ (λ p s. sent_at (queued run heard (end_of_run run) m) (p, s)) indices start ∙ sb.0.is
        | inr o ↦ elim o [
          | inl less ↦ absurd (omega (
            arith,
            limit,
            at_a,
            at_b,
            sum_two f
                (queued run heard (end_of_run run) m) sa.0.index sb.0.index no_frame less sb.0.in_queue,
          ))
          | inr more ↦ absurd (omega (
            arith,
            limit,
            at_a,
            at_b,
            sum_two f
                (queued run heard (end_of_run run) m) sb.0.index sa.0.index no_frame more sa.0.in_queue,
          ))
        ]
      ]
    where
      counts_one : (cycle frame : ℕ) (x : Received) (row : Row) → cycle_of d x.at ≡ cycle → x.frame ≡ frame →
          (if cycle_of d x.at == cycle then (if x.frame == frame then 1 else 0) else 0) ≡ suc zero
      counts_one cycle frame x row in_cycle is =
          cond-true (cycle_of d x.at == cycle) (if x.frame == frame then 1 else 0) 0 (eq-eqb (cycle_of d x.at) cycle in_cycle)
          ∙ cond-true (x.frame == frame) 1 0 (eq-eqb x.frame frame is)
