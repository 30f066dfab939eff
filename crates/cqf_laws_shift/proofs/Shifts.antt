-- The starts of a legal run are the shift, and its drops are what isn't covered.
use Rattle.std.proofs.Common.{◌≡◌, ℕ, ◌+◌, ◌-◌, ◌<◌, [], ◌++◌, inl, inr, sym, ap, ◌∙◌, subst, arith, Contains, length}
use Rattle.std.proofs.lemmas.List.Elements.{All-contains}
use Rattle.cqf_model.proofs.Policing.{inside_drops_none}
use Rattle.cqf_model.specs.declared.frames.Offered.{Offered}
use Rattle.cqf_model.specs.declared.frames.Reason.{Reason}
use Rattle.cqf_model.specs.declared.frames.Sent.{Sent}
use Rattle.cqf_model.specs.Domain.{cycle_of, bridge_of}
use Rattle.cqf_model.specs.Table.{row_of, table_of}
use Rattle.cqf_model.specs.Run.{IsOffer, Run, end_of_run}
use Rattle.cqf_model.specs.Policing.{Relayed, Carried, Received, Policed, DroppedFor, offer_received, police_all}
use Rattle.cqf_model.specs.Policing.{verdict_by, within_gate}
use Rattle.cqf_model.specs.Shift.{InShift, IsUncovered, offer_cycle}
use Rattle.cqf_laws_shift.specs.Alone.{IsPlanned, IsRunAs}
use Rattle.cqf_units.proofs.Cycles.{cycle_below}
use Rattle.cqf_laws_shift.proofs.Came.{IsOfferedHere, IsRelayed, came, came_how, numbered_member, policed}
use Rattle.cqf_laws_shift.proofs.CycleLaws.{CycleLaws}
use Rattle.cqf_laws_shift.proofs.Decided.{judged_dropped, offer_policed, offered_judged, uncovered_judged}
use Rattle.cqf_laws_shift.proofs.Edges.{gate_is_reservation}
use Rattle.cqf_laws_shift.proofs.Fed.{before_end, facts, some_time}
use Rattle.cqf_laws_shift.proofs.Policing.{has_come}
use Rattle.cqf_laws_shift.proofs.Runs.{queued_starts, sent_timed}
use Rattle.cqf_laws_shift.proofs.Trees.{hop_inside}
use Rattle.cqf_laws_shift.proofs.Paths.{comes_on, covered_tree, on_path}

module _ (laws : CycleLaws) (run : Run) (carried : Carried) {heard : Carried} (alone : IsRunAs run carried heard) where
  -- what a link sends is in the shift
  pub sent_in_shift : (link : ℕ) → link < length run.domain.links → (sent : Sent) → Contains (carried link) sent →
      InShift run (length run.tables) sent.frame link (cycle_of run.domain sent.start.0)
  sent_in_shift link is_link sent c =
      let s = sent_timed laws run carried alone link is_link sent c in
      let ingress = on_path laws run carried alone (bridge_of run.domain link) s.0.p s.0.row link s.0.inside s.0.verdict s.0.goes in
      record {
        x = ingress.x;
        row = ingress.first_row;
        hop_number = ingress.hop_number;
        covered = ingress.covered;
        is_frame = s.0.frame ∙ ingress.frame;
        is_hop = ingress.at_hop_number;
        is_cycle = s.1.cycle ∙ ingress.cycle;
        within_run = omega (arith, cycle_below run.domain.cycle_time _ (length run.tables) s.1.in_run, s.1.whole);
      }

  -- a link sends the frame in the cycle
  pub record IsSentInCycle (frame link cycle : ℕ) : Type 0 where
    pub is_link : link < length run.domain.links
    pub sent : Sent
    pub inside : Contains (carried link) sent
    pub is_frame : sent.frame ≡ frame
    pub is_cycle : cycle_of run.domain sent.start.0 ≡ cycle

  -- the link sends each frame of the shift
  pub shift_is_sent : (frame link cycle : ℕ) → InShift run (length run.tables) frame link cycle → IsSentInCycle frame link cycle
  shift_is_sent frame link cycle s =
      let is_link = hop_inside run.domain s.row (covered_tree laws run carried alone s.x s.row s.covered) s.hop_number link s.is_hop in
      let q = comes_on laws run carried alone s.x s.row s.covered s.hop_number link s.is_hop (omega (arith, s.is_cycle, s.within_run)) in
      let sent = queued_starts laws run carried alone link is_link q.p q.late q.inside q.verdict q.goes (omega (arith, q.cycle, s.is_cycle, s.within_run)) in
      record {
        is_link = is_link;
        sent = sent.0;
        inside = sent.1;
        is_frame = sent.2 ∙ q.frame ∙ sym s.is_frame;
        is_cycle = sent.5.cycle ∙ q.cycle
            ∙ sym s.is_cycle;
      }

module _ (laws : CycleLaws) (run : Run) (heard : Carried) (planned : IsPlanned run) where
  -- what is dropped is an offer that isn't covered
  pub dropped_uncovered : (bridge : ℕ) (p : Policed) (reason : Reason) → Contains (policed run heard (end_of_run run) bridge) p →
      p.verdict ≡ DroppedFor reason → (o : IsOfferedHere run heard (end_of_run run) bridge p.received) × IsUncovered run o.offered reason
  dropped_uncovered bridge p reason c e =
      elim (came_how run heard (end_of_run run) bridge p.received
      (has_come run.domain run.tables bridge (came run heard (end_of_run run) bridge) (policed run heard (end_of_run run) bridge)
      (facts laws run heard planned bridge) p c)) [
        | inl r ↦ absurd (inside r)
        | inr o ↦
            let verdict = offered_judged (gate_is_reservation laws.counts) run heard (end_of_run run)
            (some_time laws run heard planned) planned.orderly bridge p c o in
            (o, judged_dropped run o.offered reason o.inside (sym verdict ∙ e))
      ]
    where
      inside : IsRelayed run heard (end_of_run run) bridge p.received → ⊥
      inside r =
          let b = (facts laws run heard planned bridge).following p c in
          let earlier = [] ++ police_all run.domain run.tables bridge [] b.before in
          let cycle = cycle_of run.domain b.x.at in
          let ingress : b.x.ingress ≡ Relayed r.m r.sent.stream = ap (λ (z : Policed). z.received.ingress) (sym b.is) ∙ ap (λ (z : Received). z.ingress) (sym r.is) in
          inside_drops_none run.domain bridge r.m (λ k. within_gate run.domain earlier k b.x) (row_of (table_of run.tables cycle) r.sent.stream) reason
          (sym (ap (verdict_by run.domain (table_of run.tables cycle) bridge cycle (λ k. within_gate run.domain earlier k b.x)) ingress)
          ∙ ap (λ (z : Policed). z.verdict) (sym b.is) ∙ e)

  -- an offer is dropped
  pub record IsDropped (x : Offered) (reason : Reason) : Type 0 where
    pub inside : Contains (policed run heard (end_of_run run) x.offer.bridge) (record { received = offer_received x; verdict = DroppedFor reason })
    pub is_bridge : x.offer.bridge < length run.domain.bridges
    pub index : ℕ
    pub is_index : index < length run.offers
    pub frame : x.frame ≡ index + 1

  -- each offer of the run that isn't covered is dropped at its bridge
  pub uncovered_dropped : (x : Offered) (reason : Reason) → IsUncovered run x reason → offer_cycle run.domain x < length run.tables → IsDropped x reason
  uncovered_dropped x reason uncovered in_run =
      let there = offer_policed (gate_is_reservation laws.counts) run heard (end_of_run run)
      (some_time laws run heard planned) planned.orderly x uncovered.offered (before_end laws run heard planned x.offer.at.0 in_run) in
      let placed = numbered_member run.offers x uncovered.offered in
      let good = All-contains (IsOffer run.domain) run.offers x.offer planned.offered placed.0 in
      record {
        inside = subst (λ z. Contains (policed run heard (end_of_run run) x.offer.bridge) (record { received = offer_received x; verdict = z }))
            (uncovered_judged run x reason uncovered) there;
        is_bridge = good.at_bridge;
        index = x.frame - 1;
        is_index = omega (arith, placed.1, placed.2);
        frame = omega (arith, placed.1);
      }
