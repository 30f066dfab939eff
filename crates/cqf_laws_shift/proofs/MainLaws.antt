-- The gates mean the shift.
use Rattle.std.proofs.Common.{ap₂}
use Rattle.cqf_model.specs.Table.{uses}
use Rattle.cqf_model.specs.Paces.{is_active}
use Rattle.cqf_model.specs.declared.topology.Pace.{Pace}
use Rattle.cqf_model.proofs.Paces.{active_cycle_along}
use Rattle.cqf_laws_shift.proofs.Trees.{hop_uses}
use Rattle.cqf_laws_shift.proofs.Paths.{covered_active_cycle}
use Rattle.std.proofs.Common.{◌≡◌, ℕ, zero, suc, ◌+◌, ◌*◌, ◌/◌, ◌<◌, ◌≤◌, ◌⊎◌, ◌∷◌, [], ◌++◌, List, Bool, true, false, Option, Some, None, inl, inr, sym, ap}
use Rattle.std.proofs.Common.{◌∙◌, subst, arith, refl, All, AllPairs, Contains, sum_by, length, eq-eqb, eqb-true, ◌==◌}
use Rattle.std.proofs.Common.{◌&&◌, if◌then◌else◌, le_trans, le_of_eq, ne_eqb}
use Rattle.std.proofs.lemmas.Bool.{cases_Bool, cases_lt, cond-true, cond-false, and_from}
use Rattle.std.proofs.lemmas.List.Elements.{All-contains}
use Rattle.cqf_units.specs.Timing.{counted_of, cost_of, wire_of}
use Rattle.cqf_model.specs.declared.frames.Offered.{Offered}
use Rattle.cqf_model.specs.declared.frames.Sent.{Sent}
use Rattle.cqf_model.specs.declared.topology.Row.{Row}
use Rattle.cqf_model.specs.Domain.{Domain, cycle_of, bridge_of}
use Rattle.cqf_model.specs.Run.{Run, end_of_run}
use Rattle.cqf_model.specs.Table.{table_of, row_of, row_named, link_cost}
use Rattle.cqf_model.specs.Policing.{Ingress, AtEdge, Carried, Received, Policed, police_all, verdict_by, whole_at, within_gate, came_by, offer_received}
use Rattle.cqf_model.specs.Network.{IsLost, IsLoss}
use Rattle.cqf_model.specs.Shift.{InShift}
use Rattle.cqf_model.specs.Promise.{IsDecided, LeavesInTurn, MeansTheShiftAs, wire_in_cycle}
use Rattle.cqf_laws_shift.specs.Alone.{IsRunAs}
use Rattle.cqf_laws_shift.specs.MainLaw.{GatesMeanTheShift}
use Rattle.cqf_laws_shift.specs.Run.{RunBesideIsRunAlone}
use Rattle.cqf_units.proofs.Cycles.{cycle_from, cycle_upto}
use Rattle.cqf_lists.proofs.Members.{contains_from_map, contains_here, contains_none, all_from_members, find_member, find_some}
use Rattle.cqf_lists.proofs.Pairs.{pairs_none}
use Rattle.cqf_lists.proofs.Sums.{sum_none, sum_le_members, sum_grouped}
use Rattle.cqf_laws_shift.proofs.Came.{came, came_how, policed, queued}
use Rattle.cqf_laws_shift.proofs.Costs.{tested_wire_within_cost}
use Rattle.cqf_laws_shift.proofs.CycleLaws.{CycleLaws}
use Rattle.cqf_laws_shift.proofs.Decided.{edge_is_covered, is_decided, offered_judged}
use Rattle.cqf_laws_shift.proofs.Edges.{gate_is_reservation}
use Rattle.cqf_laws_shift.proofs.Fed.{before_end, facts, least, some_time}
use Rattle.cqf_laws_shift.proofs.Policing.{has_come}
use Rattle.cqf_laws_shift.proofs.Runs.{fed, index_timed, sends_one, sent_for, sent_timed, start_due}
use Rattle.cqf_laws_shift.proofs.SentSums.{of_stream, sent_counts, sent_within}
use Rattle.cqf_laws_shift.proofs.Apart.{sents_apart}
use Rattle.cqf_laws_shift.proofs.Octets.{sent_octets}
use Rattle.cqf_laws_shift.proofs.Shifts.{sent_in_shift, shift_is_sent}
use Rattle.cqf_laws_shift.proofs.Singles.{sent_once}
use Rattle.cqf_laws_shift.proofs.Trees.{hop_within, same_hop}
use Rattle.cqf_laws_shift.proofs.Verdicts.{edge_no_loss, queued_no_loss}
use Rattle.cqf_laws_shift.proofs.Paths.{covered_member, on_path, queued_member, relayed_goes_on, row_stays, same_stream}

module _ (laws : CycleLaws) (run : Run) (carried : Carried) {heard : Carried} (alone : IsRunAs run carried heard) where
  -- the run's domain
  abbrev d : Domain
  d = run.domain

  -- a link that the domain doesn't have sends nothing
  the_link : (link : ℕ) (sent : Sent) → Contains (carried link) sent → link < length run.domain.links
  the_link link sent c = elim (cases_lt link (length d.links)) [
    | inl inside ↦ inside
    | inr past ↦ absurd (contains_none sent (subst (λ z. Contains z sent) (alone.legal.no_others link past) c))
  ]

  -- what a link sends in a cycle is within what the streams held in it cost
  loads : (link cycle : ℕ) → link < length d.links → cycle < length run.tables → wire_in_cycle d carried link cycle ≤ link_cost (table_of run.tables cycle) link cycle
  loads link cycle is_link in_run = sum_grouped added of_row bound (carried link) (table_of run.tables cycle) has within
    where
      added : Sent → ℕ
      added sent = if cycle_of d sent.start.0 == cycle then wire_of sent.octets else 0

      counts : Row → Sent → Bool
      counts row sent = (cycle_of d sent.start.0 == cycle) && (sent.stream == row.no)

      used_by : Row → Bool
      used_by row = uses row.tree.items row.pace link cycle

      of_row : Sent → Row → ℕ
      of_row sent row = if used_by row then (if counts row sent then wire_of sent.octets else 0) else 0

      bound : Row → ℕ
      bound row = if used_by row then cost_of row.overhead row.octets else 0

      has : (sent : Sent) → Contains (carried link) sent →
          ((row : Row) × Contains (table_of run.tables cycle) row × (added sent ≤ of_row sent row)) ⊎ (added sent ≡ 0)
      has sent c = elim (cases_Bool (cycle_of d sent.start.0 == cycle)) [
        | inl t ↦
            let s = sent_timed laws run carried alone link is_link sent c in
            let ingress = on_path laws run carried alone (bridge_of d link) s.0.p s.0.row link s.0.inside s.0.verdict s.0.goes in
            let is : cycle ≡ cycle_of d ingress.x.offer.at.0 + ingress.hop_number = omega (arith, eqb-true (cycle_of d sent.start.0) cycle t, s.1.cycle, ingress.cycle) in
            let late = row_stays laws run carried alone ingress.x ingress.first_row cycle ingress.covered (omega (arith, is))
            (omega (arith, is, hop_within ingress.first_row ingress.hop_number link ingress.at_hop_number)) in_run in
            let row = late.0 in
            let one = same_stream laws run carried alone cycle (cycle_of d ingress.x.offer.at.0) row ingress.first_row late.2
            (covered_member laws run carried alone ingress.x ingress.first_row ingress.covered) late.3 in
            let active_cycle = ap₂ (λ (p : Pace) z. is_active p ingress.hop_number z) one.pace is
            ∙ active_cycle_along ingress.first_row.pace ingress.hop_number (cycle_of d ingress.x.offer.at.0)
            (covered_active_cycle laws run carried alone ingress.x ingress.first_row ingress.covered) in
            let on = hop_uses row ingress.hop_number link cycle (same_hop ingress.first_row row ingress.hop_number link (sym one.tree) ingress.at_hop_number) active_cycle in
            let number : sent.stream ≡ row.no = s.0.stream ∙ ingress.number ∙ sym late.3 in
            let counted = and_from (cycle_of d sent.start.0 == cycle) (sent.stream == row.no) t (eq-eqb sent.stream row.no number) in
            let value : of_row sent row ≡ wire_of sent.octets = cond-true (used_by row) (if counts row sent then wire_of sent.octets else 0) 0 on
            ∙ cond-true (counts row sent) (wire_of sent.octets) 0 counted in
            inl (row, late.2, le_of_eq (cond-true (cycle_of d sent.start.0 == cycle) (wire_of sent.octets) 0 t ∙ sym value))
        | inr u ↦ inr (cond-false (cycle_of d sent.start.0 == cycle) (wire_of sent.octets) 0 u)
      ]

      none_short : All (λ (sent : Sent). 64 ≤ sent.octets) (carried link)
      none_short = all_from_members (λ (sent : Sent). 64 ≤ sent.octets) (carried link) (λ sent c.
          let s = (fed laws run carried alone link is_link sent c).0 in
          let enough = All-contains (λ (p : Policed). 64 ≤ p.received.octets) (policed run heard (end_of_run run) (bridge_of d link)) s.p
          (least laws run heard alone.planned alone.meets (fed laws run carried alone) (bridge_of d link)) s.inside in
          omega (arith, enough, s.octets))

      -- a stream of the cycle's table sends no more octets than its reservation
      octets_within : (row : Row) → Contains (table_of run.tables cycle) row →
          sum_by (sent_counts laws run carried alone link is_link (of_stream d.overhead row.no) cycle) (carried link) ≤ row.octets
      octets_within row c = in_cycle cycle refl
        where
          no_row : (before : ℕ) → cycle ≡ before + 1 → (found : Option Row) → row_of (table_of run.tables before) row.no ≡ found →
              sum_by (sent_counts laws run carried alone link is_link (of_stream d.overhead row.no) cycle) (carried link) ≤ row.octets
          no_row before is (Some prev) found =
              let member = find_member (λ (z : Row). z.no == row.no) (table_of run.tables before) prev found in
              let number : prev.no ≡ row.no = eqb-true prev.no row.no member.1 in
              let same = (same_stream laws run carried alone before cycle prev row member.0 c number).octets in
              let limit = sent_within laws run carried alone link is_link before prev member.0 in
              let here = subst (λ z. sum_by (sent_counts laws run carried alone link is_link (of_stream d.overhead prev.no) z) (carried link) ≤ prev.octets)
              (sym is) limit in
              omega (
                arith,
                same,
                subst (λ z. sum_by (sent_counts laws run carried alone link is_link (of_stream d.overhead z) cycle)
                    (carried link) ≤ prev.octets) number here,
              )
          no_row before is None found =
              let none = sum_none (sent_counts laws run carried alone link is_link (of_stream d.overhead row.no) cycle) (carried link)
              (λ sent m. not_counted before is found sent m) in
              omega (arith, none)
            where
              not_counted : (before : ℕ) → cycle ≡ before + 1 → row_of (table_of run.tables before) row.no ≡ None → (sent : Sent) →
                  Contains (carried link) sent → sent_counts laws run carried alone link is_link (of_stream d.overhead row.no) cycle sent ≡ 0
              not_counted before is found sent m = elim (cases_Bool (cycle_of d sent.start.0 == cycle)) [
                | inl t ↦ elim (cases_Bool (sent.stream == row.no)) [
                  | inl e ↦
                      let s = sent_timed laws run carried alone link is_link sent m in
                      let at : cycle_of d s.0.p.received.at ≡ before = omega (arith, eqb-true (cycle_of d sent.start.0) cycle t, s.1.cycle, is) in
                      let member = queued_member laws run carried alone (bridge_of d link) s.0.p s.0.row s.0.inside s.0.verdict in
                      let number : s.0.row.no ≡ row.no = sym s.0.stream ∙ eqb-true sent.stream row.no e in
                      let some = find_some (λ (z : Row). z.no == row.no) (table_of run.tables before) s.0.row
                      (subst (λ z. Contains (table_of run.tables z) s.0.row) at member) (eq-eqb s.0.row.no row.no number) in
                      absurd (two_ways some.0 (sym found ∙ some.1))
                  | inr u ↦ cond-true (cycle_of d sent.start.0 == cycle) (if sent.stream == row.no then counted_of d.overhead sent.octets else 0) 0 t
                      ∙ cond-false (sent.stream == row.no) (counted_of d.overhead sent.octets) 0 u
                ]
                | inr u ↦ cond-false (cycle_of d sent.start.0 == cycle) (if sent.stream == row.no then counted_of d.overhead sent.octets else 0) 0 u
              ]
                where
                  two_ways : (r : Row) → None ≡ Some r → ⊥
                  two_ways r e = cc

          in_cycle : (c : ℕ) → cycle ≡ c → sum_by (sent_counts laws run carried alone link is_link (of_stream d.overhead row.no) cycle) (carried link) ≤ row.octets
          in_cycle zero is =
              let none = sum_none (sent_counts laws run carried alone link is_link (of_stream d.overhead row.no) cycle) (carried link) (λ sent m.
              let s = sent_timed laws run carried alone link is_link sent m in
              cond-false (cycle_of d sent.start.0 == cycle) (if sent.stream == row.no then counted_of d.overhead sent.octets else 0) 0
              (ne_eqb (cycle_of d sent.start.0) cycle (λ e. absurd (omega (arith, e, is, s.1.cycle))))) in
              omega (arith, none)
          in_cycle (suc before) is = no_row before (omega (arith, is)) (row_of (table_of run.tables before) row.no) refl

      within : (row : Row) → Contains (table_of run.tables cycle) row → sum_by (λ sent. of_row sent row) (carried link) ≤ bound row
      within row c = elim (cases_Bool (used_by row)) [
        | inl t ↦
            let inner = sum_le_members (λ sent. of_row sent row) (λ sent. if counts row sent then wire_of sent.octets else 0) (carried link)
            (λ sent m. le_of_eq (cond-true (used_by row) (if counts row sent then wire_of sent.octets else 0) 0 t)) in
            let flat = sum_le_members (λ sent. if counts row sent then counted_of d.overhead sent.octets else 0)
            (sent_counts laws run carried alone link is_link (of_stream d.overhead row.no) cycle) (carried link)
            (λ sent m. nested (cycle_of d sent.start.0 == cycle) (sent.stream == row.no) (counted_of d.overhead sent.octets)) in
            let cost = tested_wire_within_cost d.overhead alone.planned.accepted.overhead_short (counts row) (λ (sent : Sent). sent.octets) (carried link)
            row.octets none_short (le_trans flat (octets_within row c)) in
            let same = ap (λ o. cost_of o row.octets) (sym (alone.planned.orderly.overheads cycle row c)) in
            le_trans inner (le_trans cost (le_of_eq (same ∙ sym (cond-true (used_by row) (cost_of row.overhead row.octets) 0 t))))
        | inr u ↦
            let none = sum_none (λ sent. of_row sent row) (carried link)
            (λ sent m. cond-false (used_by row) (if counts row sent then wire_of sent.octets else 0) 0 u) in
            omega (arith, none)
      ]
        where
          nested : (a b : Bool) (v : ℕ) → (if a && b then v else 0) ≤ (if a then (if b then v else 0) else 0)
          nested true b v = le_of_eq refl
          nested false b v = omega arith

  -- nothing is lost inside
  none_lost : (bridge : ℕ) (p : Policed) → IsLost run heard (length run.tables) bridge p → ⊥
  none_lost bridge p lost =
      elim (came_how run heard (end_of_run run) bridge p.received
      (has_come d run.tables bridge (came run heard (end_of_run run) bridge) (policed run heard (end_of_run run) bridge)
      (facts laws run heard alone.planned bridge) p lost.came)) [
        | inl r ↦ let on = relayed_goes_on laws run carried alone bridge p lost.came r in queued_no_loss p.verdict on.0 on.1 lost.lost
        | inr o ↦
            let b = (facts laws run heard alone.planned bridge).following p lost.came in
            let earlier = [] ++ police_all d run.tables bridge [] b.before in
            let ingress : b.x.ingress ≡ AtEdge o.offered.offer.stream = ap (λ (z : Policed). z.received.ingress) (sym b.is) ∙ ap (λ (z : Received). z.ingress) (sym o.is) in
            at_edge (table_of run.tables (cycle_of d b.x.at)) (cycle_of d b.x.at) (λ r. within_gate d earlier r b.x) b.x.ingress o.offered.offer.stream ingress
            (subst IsLoss (ap (λ (z : Policed). z.verdict) b.is) lost.lost)
      ]
    where
      at_edge : (table : List Row) (cycle : ℕ) (fits : Row → Bool) (ingress : Ingress) (name : List ℕ) → ingress ≡ AtEdge name →
          IsLoss (verdict_by d table bridge cycle fits ingress) → ⊥
      at_edge table cycle fits ingress name is lost =
          edge_no_loss d bridge cycle fits (row_named table name) (subst (λ z. IsLoss (verdict_by d table bridge cycle fits z)) is lost)

  -- each frame that came by no link is an offer, with the verdict that the definitions give
  edge_only : (bridge : ℕ) (p : Policed) → Contains (policed run heard (end_of_run run) bridge) p → came_by p.received.ingress ≡ None → (x : Offered) ×
      (x.offer.bridge ≡ bridge) × (offer_received x ≡ p.received) × IsDecided run x p.verdict
  edge_only bridge p c ingress =
      elim (came_how run heard (end_of_run run) bridge p.received
      (has_come d run.tables bridge (came run heard (end_of_run run) bridge) (policed run heard (end_of_run run) bridge)
      (facts laws run heard alone.planned bridge) p c)) [
        | inl r ↦ absurd (two_ways r.m (sym ingress ∙ ap (λ (z : Received). came_by z.ingress) (sym r.is)))
        | inr o ↦
            let verdict = offered_judged (gate_is_reservation laws.counts) run heard (end_of_run run)
            (some_time laws run heard alone.planned) alone.planned.orderly bridge p c o in
            (o.offered, o.here, o.is, subst (IsDecided run o.offered) (sym verdict) (is_decided run o.offered o.inside))
      ]
    where
      two_ways : (m : ℕ) → None ≡ Some m → ⊥
      two_ways m e = cc

  -- each frame leaves in its turn
  in_turn : (link : ℕ) (sent : Sent) → Contains (carried link) sent → LeavesInTurn d link (queued run heard (end_of_run run) link) sent
  in_turn link sent c =
      let is_link = the_link link sent c in
      let s = sent_for laws run carried alone link is_link sent c in
      let one = sends_one laws run carried alone link s.0.index sent.start.0 s.0.in_queue in
      record {
        index = s.0.index;
        in_queue = s.0.in_queue;
        start = start_due laws run carried alone link is_link s.0.index sent.start.0 s.1;
        is = subst (λ z. Contains z sent) (sym one) (subst (λ z. Contains (z ∷ []) sent) (sym s.0.is) (contains_here sent []));
        cycle = index_timed laws run carried alone link is_link s.0.index sent.start.0 s.1;
      }

  -- each arrives fully in the next node, by that node's clock, in its cycle
  whole : (link : ℕ) (sent h : Sent) → Contains (carried link) sent → Contains (heard link) h → h.frame ≡ sent.frame →
      cycle_of d (whole_at d link h) ≡ cycle_of d sent.start.0
  whole link sent h c ch frames =
      let is_link = the_link link sent c in
      let r = contains_from_map (alone.meets.noted link) (carried link) h (subst (λ (xs : List Sent). Contains xs h) (alone.meets.are link) ch) in
      let alike = alone.meets.each link r.0 is_link r.1 in
      let one : r.0 ≡ sent = sent_once laws run carried alone link is_link r.0 sent r.1 c (sym alike.frame ∙ ap (λ (z : Sent). z.frame) r.2 ∙ frames) in
      let t = (sent_timed laws run carried alone link is_link sent c).1 in
      ap (λ (z : Sent). cycle_of d (whole_at d link z)) (sym r.2) ∙ ap (λ (z : Sent). cycle_of d (whole_at d link (alone.meets.noted link z))) one ∙ t.whole

  -- the hop number times the cycle time after its offer, to within one cycle time
  latency : (link : ℕ) (sent h : Sent) → Contains (carried link) sent → Contains (heard link) h → h.frame ≡ sent.frame →
      (shift : InShift run (length run.tables) sent.frame link (cycle_of d sent.start.0)) →
      (shift.x.offer.at.0 + shift.hop_number * d.cycle_time < whole_at d link h + d.cycle_time) ×
      (whole_at d link h < shift.x.offer.at.0 + (shift.hop_number + 1) * d.cycle_time)
  latency link sent h c ch frames shift =
      within d.cycle_time shift.x.offer.at.0 (whole_at d link h) shift.hop_number (some_time laws run heard alone.planned)
      (whole link sent h c ch frames ∙ shift.is_cycle)
    where
      within : (n at whole hop_number : ℕ) → 0 < n → whole / n ≡ at / n + hop_number → (at + hop_number * n < whole + n) × (whole < at + (hop_number + 1) * n)
      within n at whole hop_number some cycle =
          let scaled = ap (λ z. z * n) cycle in
          (omega (arith, scaled, cycle_from n whole, cycle_upto n at some), omega (arith, scaled, cycle_upto n whole some, cycle_from n at))

  -- no two frames that a link carries are the same
  apart : (link : ℕ) → AllPairs (λ (a b : Sent). a.frame ≡ b.frame → ⊥) (carried link)
  apart link = elim (cases_lt link (length d.links)) [
    | inl inside ↦ sents_apart laws run carried alone link inside
    | inr past ↦ subst (AllPairs (λ (a b : Sent). a.frame ≡ b.frame → ⊥)) (sym (alone.legal.no_others link past))
        (pairs_none (λ (a b : Sent). a.frame ≡ b.frame → ⊥))
  ]

  -- the main law for streams' frames alone
  pub alone_means_the_shift : MeansTheShiftAs run carried heard
  alone_means_the_shift = record {
    edge = λ x inside in_run. edge_is_covered (gate_is_reservation laws.counts) run heard (end_of_run run) x
        (some_time laws run heard alone.planned) alone.planned.orderly inside (before_end laws run heard alone.planned x.offer.at.0 in_run);
    edge_only = edge_only;
    only = λ frame link cycle l. subst (λ z. InShift run (length run.tables) z link cycle) l.is_frame
        (subst (λ z. InShift run (length run.tables) l.sent.frame link z) l.is_cycle
        (sent_in_shift laws run carried alone link (the_link link l.sent l.is_sent) l.sent l.is_sent));
    each = λ frame link cycle s. let r = shift_is_sent laws run carried alone frame link cycle s in
        record { sent = r.sent; is_sent = r.inside; is_frame = r.is_frame; is_cycle = r.is_cycle };
    once = λ link a b ca cb. sent_once laws run carried alone link (the_link link a ca) a b ca cb;
    apart = apart;
    octets = λ link sent x c inside frames. sent_octets laws run carried alone link (the_link link sent c) sent c x inside frames;
    none_lost = none_lost;
    loads = loads;
    costs = λ link cycle active_cycle is_link. alone.planned.orderly.loads cycle link active_cycle is_link;
    in_turn = in_turn;
    whole = whole;
    latency = latency;
  }

-- the main law
pub gates_mean_the_shift : CycleLaws → RunBesideIsRunAlone → GatesMeanTheShift
gates_mean_the_shift laws beside run net legal = alone_means_the_shift laws run net.carried (beside run net legal)
