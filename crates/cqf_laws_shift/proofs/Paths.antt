-- Each frame inside follows the path of a covered offer, and none is lost.
use Rattle.cqf_laws_shift.proofs.Came.{numbered_member}
use Rattle.cqf_model.specs.Table.{hop_number_after}
use Rattle.cqf_model.specs.Paces.{is_active}
use Rattle.cqf_model.specs.declared.topology.Pace.{Pace}
use Rattle.cqf_model.proofs.Paces.{active_cycle_along, reserved_active_cycle, reserved_whole}
use Rattle.cqf_model.specs.Run.{IsOffer}
use Rattle.std.proofs.lemmas.List.Elements.{All-contains}
use Rattle.std.specs.Prelude.{nat_le}
use Rattle.cqf_laws_shift.proofs.Trees.{hop_number_is, same_hop}
use Rattle.std.proofs.Common.{◌≡◌, ℕ, zero, suc, ◌+◌, ◌/◌, ◌<◌, ◌≤◌, ◌∷◌, [], ◌++◌, List, true, Some, None, inl, inr, sym, ap, ap₂, ◌∙◌, subst, arith, refl}
use Rattle.std.proofs.Common.{Contains, sum_by, length, eq-eqb, eqb-true, ◌==◌, ◌&&◌, le-leb, if◌then◌else◌}
use Rattle.std.proofs.lemmas.Bool.{cases_Bool, cond-true, cond-false, and_parts}
use Rattle.std.proofs.lemmas.List.Sums.{sum_by-append, sum_by-cons}
use Rattle.std.proofs.lemmas.Option.{same_Some}
use Rattle.cqf_units.specs.Timing.{counted_of}
use Rattle.cqf_model.specs.declared.frames.Offered.{Offered}
use Rattle.cqf_model.specs.declared.frames.Sent.{Sent}
use Rattle.cqf_model.specs.declared.topology.Row.{Row}
use Rattle.cqf_model.specs.Domain.{Domain, bridge_of, cycle_of, is_text}
use Rattle.cqf_model.specs.Run.{Run, end_of_run}
use Rattle.cqf_model.specs.Table.{IsHop, IsTree, SameStream, goes_on, residence, row_of, table_of}
use Rattle.cqf_model.specs.Policing.{Ingress, AtEdge, Relayed, Carried, Received, Policed, Queued, came_by, is_queued_of, offer_received, police_all, sent_received}
use Rattle.cqf_model.specs.Policing.{verdict_by, whole_at, within_gate}
use Rattle.cqf_model.specs.Shift.{IsCovered, offer_cycle}
use Rattle.cqf_model.proofs.Links.{leaves_its_bridge}
use Rattle.cqf_laws_shift.specs.Alone.{IsRunAs}
use Rattle.cqf_laws_shift.specs.Edge.{octets_before}
use Rattle.cqf_units.proofs.Cycles.{cycle_below}
use Rattle.cqf_lists.proofs.Members.{find_member, find_some}
use Rattle.cqf_lists.proofs.Sums.{sum_map, sum_le_members}
use Rattle.cqf_laws_shift.proofs.Came.{IsRelayed, came, came_how, policed, relayed_comes}
use Rattle.cqf_laws_shift.proofs.CycleLaws.{CycleLaws}
use Rattle.cqf_laws_shift.proofs.Decided.{covered_judged, judged, judged_queued, offer_policed, offered_judged}
use Rattle.cqf_laws_shift.proofs.Edges.{gate_is_reservation}
use Rattle.cqf_laws_shift.proofs.Fed.{before_end, facts, sent_heard, some_time}
use Rattle.cqf_laws_shift.proofs.Policing.{Polices, has_come, has_verdict, is_queued_by, polices_all, row_of_queued, taken}
use Rattle.cqf_laws_shift.proofs.Runs.{heard_timed, queued_starts}
use Rattle.cqf_laws_shift.proofs.SentSums.{arrives_within, arriving_counts, by_link, of_stream, sent_counts, sent_within}
use Rattle.cqf_laws_shift.proofs.Trees.{GoesBy, by_goes_on, first_hops_begin, first_is_begun, goes_into, goes_on_after, hop_inside, hop_number_some, hop_within}
use Rattle.cqf_laws_shift.proofs.Trees.{hops_are_reached, hops_follow, one_beginning, one_ingress_at, same_goes, same_goes_on}
use Rattle.cqf_laws_shift.proofs.Verdicts.{IsQueuedBy, QueuedInside, inside_passes, queued_number, queued_of}

module _ (laws : CycleLaws) (run : Run) (carried : Carried) {heard : Carried} (alone : IsRunAs run carried heard) where
  -- the run's domain
  abbrev d : Domain
  d = run.domain

  -- the end of the run
  abbrev end : ℕ
  end = end_of_run run

  -- what arrives at a bridge
  abbrev come : ℕ → List Received
  come b = came run heard (end_of_run run) b

  -- the verdicts on it
  abbrev given : ℕ → List Policed
  given b = policed run heard (end_of_run run) b

  -- the facts about it
  abbrev known : (b : ℕ) → Polices run.domain run.tables b (came run heard (end_of_run run) b) (policed run heard (end_of_run run) b)
  known b = facts laws run heard alone.planned b

  -- a cycle takes some time
  abbrev some : 0 < run.domain.cycle_time
  some = some_time laws run heard alone.planned

  -- the row of a covered offer is of its cycle's table
  pub covered_member : (x : Offered) (row : Row) → IsCovered run x row → Contains (table_of run.tables (offer_cycle run.domain x)) row
  covered_member x row covered = (find_member (λ (r : Row). is_text r.name x.offer.stream) (table_of run.tables (offer_cycle run.domain x)) row covered.named).0

  -- and its links are a tree
  pub covered_tree : (x : Offered) (row : Row) → IsCovered run x row → IsTree run.domain row.tree.items
  covered_tree x row covered = alone.planned.orderly.trees (offer_cycle run.domain x) row (covered_member x row covered)

  -- and its offer is made in the stream's active cycle
  pub covered_active_cycle : (x : Offered) (row : Row) → IsCovered run x row → is_active row.pace 0 (offer_cycle run.domain x) ≡ true
  covered_active_cycle x row covered =
      let offer = All-contains (IsOffer d) run.offers x.offer alone.planned.offered (numbered_member run.offers x covered.offered).0 in
      reserved_active_cycle row 0 (offer_cycle d x) (omega (arith, covered.within, offer.least, alone.planned.accepted.overhead_short))

  -- rows of one number have one tree
  pub same_stream : (c e : ℕ) (early late : Row) → Contains (table_of run.tables c) early → Contains (table_of run.tables e) late → early.no ≡ late.no →
      SameStream early late
  same_stream c e early late = alone.planned.orderly.one_stream c e early late

  -- the row by which a frame goes on is of its cycle's table
  pub queued_member : (bridge : ℕ) (p : Policed) (row : Row) → Contains (policed run heard (end_of_run run) bridge) p → p.verdict ≡ Queued row →
      Contains (table_of run.tables (cycle_of run.domain p.received.at)) row
  queued_member bridge p row c is = row_of_queued d run.tables bridge (come bridge) (given bridge) (known bridge) p row c is

  -- and if the frame came by a link, the row is of the frame's stream
  pub relayed_number : (bridge m number : ℕ) (p : Policed) (row : Row) → Contains (policed run heard (end_of_run run) bridge) p → p.verdict ≡ Queued row →
      p.received.ingress ≡ Relayed m number → row.no ≡ number
  relayed_number bridge m number p row c is ingress =
      let e = cycle_of d p.received.at in
      queued_number d (table_of run.tables e) bridge e m number row
      (subst (λ z. IsQueuedBy d (table_of run.tables e) bridge e z row) ingress
      (is_queued_by d run.tables bridge (come bridge) (given bridge) (known bridge) p row c is))

  -- a queued frame is on the path of a covered offer, at this hop number, and that many cycles after the offer
  pub record IsOnPath (p : Policed) (row : Row) (l : ℕ) : Type 0 where
    pub x : Offered
    pub first_row : Row
    pub covered : IsCovered run x first_row
    pub hop_number : ℕ
    pub number : row.no ≡ first_row.no
    pub frame : p.received.frame ≡ x.frame
    pub octets : p.received.octets ≡ x.offer.octets
    pub at_hop_number : IsHop first_row hop_number l
    pub cycle : cycle_of run.domain p.received.at + 1 ≡ offer_cycle run.domain x + hop_number

  -- by induction on the cycle: a frame that came by a link has the next hop number after the link before
  on_path_before : (t bridge : ℕ) (p : Policed) (row : Row) (l : ℕ) → Contains (given bridge) p → p.verdict ≡ Queued row →
      GoesBy row (came_by p.received.ingress) l → cycle_of d p.received.at < t → IsOnPath p row l
  on_path_before zero bridge p row l c is goes early = absurd (omega (arith, early))
  on_path_before (suc t) bridge p row l c is goes early =
      elim (came_how run heard end bridge p.received (has_come d run.tables bridge (come bridge) (given bridge) (known bridge) p c)) [
        | inl r ↦
            let s = heard_timed laws run carried alone r.m r.is_link r.sent r.inside in
            let before = bridge_of d r.m in
            let whole : cycle_of d (whole_at d r.m r.sent) ≡ cycle_of d p.received.at = ap (λ (z : Received). cycle_of d z.at) r.is in
            let prior = on_path_before t before s.0.p s.0.row r.m s.0.inside s.0.verdict s.0.goes (omega (arith, early, whole, s.1)) in
            let ingress : p.received.ingress ≡ Relayed r.m r.sent.stream = ap (λ (z : Received). z.ingress) (sym r.is) in
            let number : row.no ≡ prior.first_row.no = relayed_number bridge r.m r.sent.stream p row c is ingress ∙ s.0.stream ∙ prior.number in
            let tree = (same_stream (cycle_of d p.received.at) (offer_cycle d prior.x) row prior.first_row (queued_member bridge p row c is)
            (covered_member prior.x prior.first_row prior.covered) number).tree in
            let on : GoesBy row (Some r.m) l = subst (λ z. GoesBy row (came_by z) l) ingress goes in
            record {
              x = prior.x;
              first_row = prior.first_row;
              covered = prior.covered;
              hop_number = prior.hop_number + 1;
              number = number;
              frame = ap (λ (z : Received). z.frame) (sym r.is) ∙ s.0.frame ∙ prior.frame;
              octets = ap (λ (z : Received). z.octets) (sym r.is) ∙ s.0.octets ∙ prior.octets;
              at_hop_number = hops_follow d prior.first_row (covered_tree prior.x prior.first_row prior.covered) prior.hop_number r.m l prior.at_hop_number
                  (same_goes row prior.first_row (Some r.m) l tree on);
              cycle = omega (arith, whole, s.1, prior.cycle);
            }
        | inr o ↦
            let judged = offered_judged (gate_is_reservation laws.counts) run heard end some alone.planned.orderly bridge p c o in
            let covered = judged_queued run o.offered row o.inside (sym judged ∙ is) in
            let begun : GoesBy row None l = subst (λ (z : Received). GoesBy row (came_by z.ingress) l) (sym o.is) goes in
            record {
              x = o.offered;
              first_row = row;
              covered = covered;
              hop_number = 1;
              number = refl;
              frame = ap (λ (z : Received). z.frame) (sym o.is);
              octets = ap (λ (z : Received). z.octets) (sym o.is);
              at_hop_number = first_hops_begin d row (covered_tree o.offered row covered) l begun;
              cycle = ap (λ (z : Received). cycle_of d z.at + 1) (sym o.is);
            }
      ]

  -- each queued frame is on its way
  pub on_path : (bridge : ℕ) (p : Policed) (row : Row) (l : ℕ) → Contains (policed run heard (end_of_run run) bridge) p → p.verdict ≡ Queued row →
      GoesBy row (came_by p.received.ingress) l → IsOnPath p row l
  on_path bridge p row l c is goes = on_path_before (suc (cycle_of d p.received.at)) bridge p row l c is goes (omega arith)

  -- a frame of a stream that goes on at a bridge which its tree enters by a link came by that link
  came_by_one : (bridge m number c e : ℕ) (row other : Row) (ingress : Ingress) → Contains (table_of run.tables c) row → Contains (table_of run.tables e) other →
      other.no ≡ row.no → row.no ≡ number →
      goes_on d row (Some m) bridge ≡ true → IsQueuedBy d (table_of run.tables e) bridge e ingress other → ingress ≡ Relayed m number
  came_by_one bridge m number c e row other (AtEdge name) inside other_inside same is here q =
      let tree = (same_stream e c other row other_inside inside same).tree in
      absurd (two_ways (one_ingress_at d row (alone.planned.orderly.trees c row inside) None (Some m) bridge
      (same_goes_on d other row None bridge tree q.here) here))
    where
      two_ways : None ≡ Some m → ⊥
      two_ways e = cc
  came_by_one bridge m number c e row other (Relayed link stream) inside other_inside same is here q =
      let tree = (same_stream e c other row other_inside inside same).tree in
      let links = one_ingress_at d row (alone.planned.orderly.trees c row inside) (Some link) (Some m) bridge
      (same_goes_on d other row (Some link) bridge tree q.here) here in
      let link_is : link ≡ m = same_Some link m links in
      let number_is : stream ≡ number = sym (queued_number d (table_of run.tables e) bridge e link stream other q) ∙ same ∙ is in
      ap₂ Relayed link_is number_is

  -- so what arrives by a link stays within its stream's reservation
  relayed_fits : (bridge m number cycle : ℕ) (is_link : m < length d.links) (row prev : Row) (before after : List Received) (y : Received) →
      Contains (table_of run.tables (cycle + 1)) row → row.no ≡ number → goes_on d row (Some m) bridge ≡ true →
      Contains (table_of run.tables cycle) prev → prev.no ≡ number → come bridge ≡ before ++ y ∷ after → y.ingress ≡ Relayed m number →
      cycle_of d y.at ≡ cycle + 1 →
      octets_before d row.no (cycle + 1) (police_all d run.tables bridge [] before) + counted_of d.overhead y.octets ≤ row.octets
  relayed_fits bridge m number cycle is_link row prev before after y inside is here prev_inside prev_is parts by in_cycle =
      let split = sum_by-append arrives before (y ∷ after) in
      let cons = sum_by-cons arrives y after in
      let whole = ap (sum_by arrives) parts in
      let counted = counts y by in_cycle in
      let upper = arrives_within laws run carried alone m is_link (of_stream d.overhead number) bridge (cycle + 1) in
      let sent = subst (λ z. sum_by (sent_counts laws run carried alone m is_link (of_stream d.overhead z) (cycle + 1)) (carried m) ≤ prev.octets) prev_is
      (sent_within laws run carried alone m is_link cycle prev prev_inside) in
      let octets = (same_stream cycle (cycle + 1) prev row prev_inside inside (prev_is ∙ sym is)).octets in
      omega (arith, split, cons, whole, counted, upper, sent, octets, taken_came)
    where
      arrives : Received → ℕ
      arrives = arriving_counts laws run carried alone m is_link (of_stream d.overhead number) (cycle + 1)

      counts : (x : Received) → x.ingress ≡ Relayed m number → cycle_of d x.at ≡ cycle + 1 → arrives x ≡ counted_of d.overhead x.octets
      counts x ingress in_cycle =
          cond-true (cycle_of d x.at == cycle + 1) (by_link m (λ stream. of_stream d.overhead number x.frame stream x.octets) x.ingress) 0
          (eq-eqb (cycle_of d x.at) (cycle + 1) in_cycle)
          ∙ ap (by_link m (λ stream. of_stream d.overhead number x.frame stream x.octets)) ingress
          ∙ cond-true (m == m) (if number == number then counted_of d.overhead x.octets else 0) 0 (eq-eqb m m refl)
          ∙ cond-true (number == number) (counted_of d.overhead x.octets) 0 (eq-eqb number number refl)

      earlier : List Policed
      earlier = police_all d run.tables bridge [] before

      fb : Polices d run.tables bridge before earlier
      fb = polices_all (gate_is_reservation laws.counts) d run.tables bridge before some alone.planned.orderly

      term : (p : Policed) → Contains earlier p → taken d row.no (cycle + 1) p ≤ arrives p.received
      term p c = elim (cases_Bool (is_queued_of row.no p.verdict && (cycle_of d p.received.at == cycle + 1))) [
        | inl t ↦
            let both = and_parts (is_queued_of row.no p.verdict) (cycle_of d p.received.at == cycle + 1) t in
            let q = queued_of row.no p.verdict both.0 in
            let e = cycle_of d p.received.at in
            let q_by = is_queued_by d run.tables bridge before earlier fb p q.0 c q.1 in
            let q_in = row_of_queued d run.tables bridge before earlier fb p q.0 c q.1 in
            let came_so = came_by_one bridge m number (cycle + 1) e row q.0 p.received.ingress inside q_in q.2 is here q_by in
            omega (
              arith,
              cond-true (is_queued_of row.no p.verdict && (e == cycle + 1)) (counted_of d.overhead p.received.octets) 0 t,
              counts p.received came_so
                  (eqb-true e (cycle + 1) both.1),
            )
        | inr u ↦ omega (arith, cond-false (is_queued_of row.no p.verdict && (cycle_of d p.received.at == cycle + 1)) (counted_of d.overhead p.received.octets) 0 u)
      ]

      taken_came : sum_by (taken d row.no (cycle + 1)) earlier ≤ sum_by arrives before
      taken_came = subst (λ z. sum_by (taken d row.no (cycle + 1)) earlier ≤ sum_by arrives z) fb.in_turn
          (subst (λ z. sum_by (taken d row.no (cycle + 1)) earlier ≤ z) (sym (sum_map arrives (λ (p : Policed). p.received) earlier))
          (sum_le_members (taken d row.no (cycle + 1)) (λ p. arrives p.received) earlier term))

  -- a covered stream's row is in the table of each cycle in which one of its frames is under way
  pub row_stays : (x : Offered) (row : Row) (c : ℕ) → IsCovered run x row → offer_cycle run.domain x ≤ c → c ≤ offer_cycle run.domain x + residence row →
      c < length run.tables →
      (late : Row) × (row_of (table_of run.tables c) row.no ≡ Some late) × Contains (table_of run.tables c) late × (late.no ≡ row.no)
  row_stays x row c covered from upto in_run =
      let late = alone.planned.orderly.stays (offer_cycle d x) c row (covered_member x row covered) covered.live from upto in_run in
      let found = find_some (λ (z : Row). z.no == row.no) (table_of run.tables c) late.0 late.1 (eq-eqb late.0.no row.no (sym late.2)) in
      let member = find_member (λ (z : Row). z.no == row.no) (table_of run.tables c) found.0 found.1 in
      (found.0, found.1, member.0, eqb-true found.0.no row.no member.1)

  -- a frame that arrives by a link goes on: none is lost
  pub relayed_goes_on : (bridge : ℕ) (p : Policed) → Contains (policed run heard (end_of_run run) bridge) p →
      IsRelayed run heard (end_of_run run) bridge p.received → (row : Row) × (p.verdict ≡ Queued row)
  relayed_goes_on bridge p c r =
      let s = heard_timed laws run carried alone r.m r.is_link r.sent r.inside in
      let before = bridge_of d r.m in
      let ingress = on_path before s.0.p s.0.row r.m s.0.inside s.0.verdict s.0.goes in
      let cycle = cycle_of d s.0.p.received.at in
      let is_cycle : cycle_of d (whole_at d r.m r.sent) ≡ cycle + 1 = s.1 in
      let in_run : cycle + 1 < length run.tables = omega (arith, is_cycle, cycle_below d.cycle_time (whole_at d r.m r.sent) (length run.tables) r.early) in
      let good = covered_tree ingress.x ingress.first_row ingress.covered in
      let deep = hop_within ingress.first_row ingress.hop_number r.m ingress.at_hop_number in
      let late = row_stays ingress.x ingress.first_row (cycle + 1) ingress.covered (omega (arith, ingress.cycle)) (omega (arith, ingress.cycle, deep)) in_run in
      let row = late.0 in
      let stream : r.sent.stream ≡ ingress.first_row.no = s.0.stream ∙ ingress.number in
      let one = same_stream (cycle + 1) (offer_cycle d ingress.x) row ingress.first_row late.2 (covered_member ingress.x ingress.first_row ingress.covered) late.3 in
      let here = same_goes_on d ingress.first_row row (Some r.m) bridge (sym one.tree)
      (goes_on_after d ingress.first_row good ingress.hop_number r.m bridge ingress.at_hop_number r.here) in
      let b = (known bridge).following p c in
      let y_is : b.x ≡ sent_received d r.m r.sent = ap (λ (z : Policed). z.received) (sym b.is) ∙ sym r.is in
      let y_cycle : cycle_of d b.x.at ≡ cycle + 1 = ap (λ (z : Received). z.at / d.cycle_time) y_is ∙ is_cycle in
      let y_ingress : b.x.ingress ≡ Relayed r.m r.sent.stream = ap (λ (z : Received). z.ingress) y_is in
      let earlier = police_all d run.tables bridge [] b.before in
      let fits = relayed_fits bridge r.m r.sent.stream cycle r.is_link row s.0.row b.before b.after b.x late.2 (late.3 ∙ sym stream) here
      (queued_member before s.0.p s.0.row s.0.inside s.0.verdict) (sym s.0.stream) b.parts y_ingress y_cycle in
      let at = same_hop ingress.first_row row ingress.hop_number r.m (sym one.tree) ingress.at_hop_number in
      let tree = alone.planned.orderly.trees (cycle + 1) row late.2 in
      let active_cycle_there = active_cycle_along row.pace ingress.hop_number (offer_cycle d ingress.x)
      (ap (λ (p : Pace). is_active p 0 (offer_cycle d ingress.x)) one.pace ∙ covered_active_cycle ingress.x ingress.first_row ingress.covered) in
      let active_cycle : is_active row.pace (hop_number_after row (came_by b.x.ingress)) (cycle_of d b.x.at) ≡ true =
      ap₂ (is_active row.pace) (ap (λ (w : Ingress). hop_number_after row (came_by w)) y_ingress ∙ hop_number_is d row tree ingress.hop_number r.m at) (y_cycle ∙ ingress.cycle)
      ∙ active_cycle_there in
      let reserved = reserved_whole row (hop_number_after row (came_by b.x.ingress)) (cycle_of d b.x.at) active_cycle in
      let passes : within_gate d earlier row b.x ≡ true =
      gate_is_reservation laws.counts d earlier row b.x some
      ∙ ap (nat_le (octets_before d row.no (cycle_of d b.x.at) earlier + counted_of d.overhead b.x.octets)) reserved
      ∙ le-leb (octets_before d row.no (cycle_of d b.x.at) earlier + counted_of d.overhead b.x.octets) row.octets
      (subst (λ z. octets_before d row.no z earlier + counted_of d.overhead b.x.octets ≤ row.octets) (sym y_cycle) fits) in
      let leads : QueuedInside d bridge r.m (row_of (table_of run.tables (cycle + 1)) r.sent.stream) row =
      record { is = ap (row_of (table_of run.tables (cycle + 1))) stream ∙ late.1; here = here } in (
        row,
        ap (λ (z : Policed). z.verdict) b.is
            ∙ ap₂ (λ z w. verdict_by d (table_of run.tables z) bridge z (λ (k : Row). within_gate d earlier k b.x) w) y_cycle y_ingress
            ∙ inside_passes d bridge r.m (λ (k : Row). within_gate d earlier k b.x) (row_of (table_of run.tables (cycle + 1)) r.sent.stream) row leads passes,
      )

  -- a covered frame arrives at each port of its tree, in its turn
  pub record IsQueuedOnPath (x : Offered) (row : Row) (hop_number l : ℕ) : Type 0 where
    pub p : Policed
    pub late : Row
    pub inside : Contains (policed run heard (end_of_run run) (bridge_of run.domain l)) p
    pub verdict : p.verdict ≡ Queued late
    pub goes : GoesBy late (came_by p.received.ingress) l
    pub number : late.no ≡ row.no
    pub frame : p.received.frame ≡ x.frame
    pub octets : p.received.octets ≡ x.offer.octets
    pub cycle : cycle_of run.domain p.received.at + 1 ≡ offer_cycle run.domain x + hop_number

  -- at the first links
  comes_first : (x : Offered) (row : Row) (l : ℕ) → IsCovered run x row → IsHop row 1 l → offer_cycle d x < length run.tables → IsQueuedOnPath x row 1 l
  comes_first x row l covered at in_run =
      let good = covered_tree x row covered in
      let begun = first_is_begun d row good l at in
      let leaving = by_goes_on d row None l (bridge_of d l) begun (leaves_its_bridge d l (hop_inside d row good 1 l at)) in
      let there : x.offer.bridge ≡ bridge_of d l = one_beginning d row good x.offer.bridge (bridge_of d l) covered.first_bridge leaving in
      let p : Policed = record { received = offer_received x; verdict = judged run x } in
      let inside = offer_policed (gate_is_reservation laws.counts) run heard end some alone.planned.orderly x covered.offered
      (before_end laws run heard alone.planned x.offer.at.0 in_run) in
      record {
        p = p;
        late = row;
        inside = subst (λ z. Contains (given z) p) there inside;
        verdict = covered_judged run x row covered;
        goes = begun;
        number = refl;
        frame = refl;
        octets = refl;
        cycle = refl;
      }

  -- if a link of the tree sent a frame of a covered offer, and it goes on from the next bridge, it is at each port there
  comes_as : (x : Offered) (row : Row) → IsCovered run x row → (k m l : ℕ) → GoesBy row (Some m) l → (sent : Sent) → sent.frame ≡ x.frame →
      sent.stream ≡ row.no → sent.octets ≡ x.offer.octets → cycle_of d (whole_at d m sent) ≡ offer_cycle d x + k →
      (p : Policed) → Contains (given (bridge_of d l)) p → p.received ≡ sent_received d m sent → (on : Row) → p.verdict ≡ Queued on →
      IsQueuedOnPath x row (k + 1) l
  comes_as x row covered k m l by sent frame stream octets cycle p inside is on verdict =
      let b = bridge_of d l in
      let ingress : p.received.ingress ≡ Relayed m sent.stream = ap (λ (z : Received). z.ingress) is in
      let number : on.no ≡ row.no = relayed_number b m sent.stream p on inside verdict ingress ∙ stream in
      let tree = (same_stream (cycle_of d p.received.at) (offer_cycle d x) on row (queued_member b p on inside verdict)
      (covered_member x row covered) number).tree in
      record {
        p = p;
        late = on;
        inside = inside;
        verdict = verdict;
        goes = subst (λ z. GoesBy on (came_by z) l) (sym ingress) (same_goes row on (Some m) l (sym tree) by);
        number = number;
        frame = ap (λ (z : Received). z.frame) is ∙ frame;
        octets = ap (λ (z : Received). z.octets) is ∙ octets;
        cycle = omega (arith, ap (λ (z : Received). z.at / d.cycle_time) is, cycle);
      }

  -- and it does go on from there
  comes_with : (x : Offered) (row : Row) → IsCovered run x row → (k m l : ℕ) → m < length d.links → GoesBy row (Some m) l → (sent : Sent) →
      Contains (heard m) sent → sent.frame ≡ x.frame → sent.stream ≡ row.no → sent.octets ≡ x.offer.octets →
      cycle_of d (whole_at d m sent) ≡ offer_cycle d x + k →
      whole_at d m sent < end → IsQueuedOnPath x row (k + 1) l
  comes_with x row covered k m l is_link by sent inside frame stream octets cycle in_run =
      let b = bridge_of d l in
      let enters = goes_into d row (covered_tree x row covered) m l by in
      let p = has_verdict d run.tables b (come b) (given b) (known b) (sent_received d m sent)
      (relayed_comes run heard end b m sent is_link enters inside in_run) in
      let relayed : IsRelayed run heard end b p.0.received =
      record { m = m; is_link = is_link; here = enters; sent = sent; inside = inside; is = sym p.2; early = in_run } in
      let on = relayed_goes_on b p.0 p.1 relayed in
      comes_as x row covered k m l by sent frame stream octets cycle p.0 p.1 p.2 on.0 on.1

  -- so from port to port
  comes_next : (x : Offered) (row : Row) → IsCovered run x row → (k m l : ℕ) → IsHop row k m → GoesBy row (Some m) l → offer_cycle d x + k < length run.tables →
      IsQueuedOnPath x row k m → IsQueuedOnPath x row (k + 1) l
  comes_next x row covered k m l at by in_run prior =
      let is_link = hop_inside d row (covered_tree x row covered) k m at in
      let sent = queued_starts laws run carried alone m is_link prior.p prior.late prior.inside prior.verdict prior.goes (omega (arith, prior.cycle, in_run)) in
      let alike = alone.meets.each m sent.0 is_link sent.1 in
      comes_with x row covered k m l is_link by (alone.meets.noted m sent.0) (sent_heard d carried heard alone.meets m sent.0 sent.1)
      (alike.frame ∙ sent.2 ∙ prior.frame) (alike.stream ∙ sent.3 ∙ prior.number) (alike.octets ∙ sent.4 ∙ prior.octets)
      (sent.5.whole ∙ sent.5.cycle ∙ prior.cycle) sent.5.in_run

  -- by induction on the hop number
  pub comes_on : (x : Offered) (row : Row) → IsCovered run x row → (hop_number l : ℕ) → IsHop row hop_number l → offer_cycle run.domain x + hop_number < length run.tables →
      IsQueuedOnPath x row hop_number l
  comes_on x row covered zero l at in_run = absurd (omega (arith, hop_number_some d row (covered_tree x row covered) at.hop at.of_tree, at.is_hop_number))
  comes_on x row covered (suc zero) l at in_run = comes_first x row l covered at (omega (arith, in_run))
  comes_on x row covered (suc (suc k)) l at in_run =
      let deeper : suc (suc k) ≡ suc k + 1 = omega arith in
      let here = hops_are_reached d row (covered_tree x row covered) (suc k) l (omega arith) (subst (λ z. IsHop row z l) deeper at) in
      subst (λ z. IsQueuedOnPath x row z l) (sym deeper)
      (comes_next x row covered (suc k) here.0 l here.1 here.2 (omega (arith, in_run)) (comes_on x row covered (suc k) here.0 here.1 (omega (arith, in_run))))
