-- A bridge on its thread takes what arrived through a link.
use Rattle.std.proofs.Common.{◌≡◌, ◌∙◌, ℕ, List, [], ◌∷◌, ◌++◌, Some, All}
use Rattle.std.proofs.Common.{length, map, set, refl, sym, ap, subst, arith, inl, inr, eq-eqb, ne_eqb}
use Rattle.std.specs.Prelude.{◌==◌, slice_get}
use Rattle.std.proofs.lemmas.Bool.{cases_eq, cond-false, cond-true}
use Rattle.std.proofs.lemmas.List.Elements.{All-set}
use Rattle.cqf_lists.specs.Lists.{each_below}
use Rattle.cqf_admission.specs.Tables.{CycleTable}
use Rattle.cqf_agenda.specs.Agenda.{offers_listed_at}
use Rattle.cqf_relay.specs.declared.moving.Segment.{Segment}
use Rattle.cqf_relay.specs.declared.outlet.Outlet.{Outlet}
use Rattle.cqf_relay.specs.Segments.{AreNextSegments, IsNextSegment, all_frames, end_of_segments, frames_of}
use Rattle.cqf_agenda.specs.Links.{links_into}
use Rattle.cqf_relay.specs.Standing.{Come, IsInletOf, MayBeTables, StandsSo, TakesSegment, link_in, with_segment}
use Rattle.cqf_lists.proofs.Written.{map_kept}
use Rattle.cqf_relay.proofs.Handing.{all_at}
use Rattle.cqf_worker_loops.specs.declared.carried.Carried.{Carried}
use Rattle.cqf_worker_loops.specs.declared.carried.Carried.TheVariants.{Item}
use Rattle.cqf_worker_loops.specs.declared.worker.Worker.{Worker}
use Rattle.cqf_worker_loops.specs.Rows.{with_item_at, wires_of}
use Rattle.cqf_worker_loops.specs.Stepping.{GoesFurther, HasComeSoFar, IsUnderWay}
use Rattle.cqf_worker_loops.specs.Stops.{AreItems}
use Rattle.cqf_worker_loops.specs.Workers.{AreDropsOf, MayHaveComeTo, Offering, SegmentPort, come_to, items_in, link_of, rows_in, segments_at}
use Rattle.cqf_worker_loops.proofs.Ports.{IsPartner, ascend_by, end_more, frames_more, into_ascends, next_front, partner, segments_at_other, segments_at_own, wires_with}
use Rattle.cqf_worker_loops.proofs.Stopping.{CarriesItems, items_and_one}
use Rattle.cqf_worker_loops.proofs.UnderWay.{handed_still, takes_under_way}

module _ (t : Offering) (number index : ℕ) (before after : Worker) (port : SegmentPort) (segment : Segment)
    (there : slice_get before.ins.items index ≡ Some port) (ins : after.ins.items ≡ set before.ins.items index (with_item_at port (Item segment)))
    (takes : TakesSegment index segment before.relay after.relay) (agenda : after.agenda ≡ before.agenda) (tables : after.tables.items ≡ before.tables.items)
    (outs : after.outs.items ≡ before.outs.items) (under_way : IsUnderWay t number before) where
  -- what arrived through the link ends with the segment
  segment_by_link : segments_at after.ins.items port.link ≡ segments_at before.ins.items port.link ++ segment ∷ []
  segment_by_link =
      ap (λ (ports : List SegmentPort). segments_at ports port.link) ins
      ∙ segments_at_own before.ins.items index port segment
      (ascend_by link_of before.ins.items (links_into t.domain number) under_way.links_in (into_ascends t.domain number)) there

  -- and through each other link it is the same
  same_by_others : (l : ℕ) → (port.link ≡ l → ⊥) → segments_at after.ins.items l ≡ segments_at before.ins.items l
  same_by_others l apart = ap (λ (ports : List SegmentPort). segments_at ports l) ins ∙ segments_at_other before.ins.items index port segment l there apart

  -- the cycle up to which it arrived
  comes_upto : (k : ℕ) → end_of_segments 0 (segments_at after.ins.items k) ≡ (with_segment (come_to before) port.link segment).upto k
  comes_upto k = elim (cases_eq k port.link) [
    | inl same ↦
        ap (λ (l : ℕ). end_of_segments 0 (segments_at after.ins.items l)) same
        ∙ ap (end_of_segments 0) segment_by_link
        ∙ end_more 0 (segments_at before.ins.items port.link) segment
        ∙ sym (cond-true (k == port.link) segment.upto ((come_to before).upto k) (eq-eqb k port.link same))
    | inr differ ↦
        ap (end_of_segments 0) (same_by_others k (λ same. differ (sym same)))
        ∙ sym (cond-false (k == port.link) segment.upto ((come_to before).upto k) (ne_eqb k port.link differ))
  ]

  -- and the frames that arrived
  comes_with : (k : ℕ) → all_frames (segments_at after.ins.items k) ≡ (with_segment (come_to before) port.link segment).brought k
  comes_with k = elim (cases_eq k port.link) [
    | inl same ↦
        ap (λ (l : ℕ). all_frames (segments_at after.ins.items l)) same
        ∙ ap all_frames segment_by_link
        ∙ frames_more (segments_at before.ins.items port.link) segment
        ∙ ap (λ (l : ℕ). all_frames (segments_at before.ins.items l) ++ frames_of segment) (sym same)
        ∙ sym (cond-true (k == port.link) ((come_to before).brought k ++ frames_of segment) ((come_to before).brought k) (eq-eqb k port.link same))
    | inr differ ↦
        ap all_frames (same_by_others k (λ same. differ (sym same)))
        ∙ sym (cond-false (k == port.link) ((come_to before).brought k ++ frames_of segment) ((come_to before).brought k) (ne_eqb k port.link differ))
  ]

  -- what has arrived now is the former with the segment
  come_with_segment : come_to after ≡ with_segment (come_to before) port.link segment
  come_with_segment = λ i. record {
    tables = map rows_in (items_in (tables i));
    offers = each_below (λ cycle. offers_listed_at (agenda i) cycle ∷ []) (length (items_in (tables i)));
    upto = λ m. comes_upto m i;
    brought = λ m. comes_with m i;
  }

  -- the segment may come next, if everything may come
  segment_may_come : MayHaveComeTo t after → AreNextSegments 0 (segments_at before.ins.items port.link) × IsNextSegment (end_of_segments 0 (segments_at before.ins.items port.link)) segment
  segment_may_come may =
      next_front 0 (segments_at before.ins.items port.link) segment (subst (AreNextSegments 0) segment_by_link (may.segments port.link))

  -- and what arrived before may arrive
  may_before_segment : MayHaveComeTo t after → MayHaveComeTo t before
  may_before_segment may = record {
    segments = λ l. elim (cases_eq port.link l) [
      | inl same ↦ subst (λ (k : ℕ). AreNextSegments 0 (segments_at before.ins.items k)) same (segment_may_come may).0
      | inr differ ↦ subst (AreNextSegments 0) (same_by_others l differ) (may.segments l)
    ];
    tables = subst (λ (carried : List (Carried CycleTable)). MayBeTables t.domain (map rows_in (items_in carried))) tables may.tables;
  }

  -- so its bridge is in the state that follows from it
  stands_with_segment : MayHaveComeTo t after → HasComeSoFar t number after
  stands_with_segment may =
      let so = under_way.come (may_before_segment may) in
      let inlet : IsPartner link_of link_in before.relay.inlets.items index port =
      partner link_of link_in before.ins.items before.relay.inlets.items index port (under_way.links_in ∙ sym under_way.inlets) there in
      let upto : inlet.other.upto ≡ end_of_segments 0 (segments_at before.ins.items port.link) =
      (all_at (IsInletOf (come_to before) so.stands.least) before.relay.inlets.items index inlet.other so.stands.inlets inlet.there).upto
      ∙ ap (λ (l : ℕ). end_of_segments 0 (segments_at before.ins.items l)) inlet.alike in
      let next : IsNextSegment inlet.other.upto segment = subst (λ (n : ℕ). IsNextSegment n segment) (sym upto) (segment_may_come may).1 in
      let stands : StandsSo t.domain (with_segment (come_to before) port.link segment) so.sends after.relay =
      subst (λ (l : ℕ). StandsSo t.domain (with_segment (come_to before) l segment) so.sends after.relay) inlet.alike
      (takes.stands t.domain (come_to before) so.sends inlet.other so.stands inlet.there next) in
      let drops : AreDropsOf t.domain number (with_segment (come_to before) port.link segment) before.relay.tables before.relay.edge.drops.items =
      record { fresh = so.drops.fresh; are = so.drops.are; each = so.drops.each; by_frame = so.drops.by_frame } in
      record {
        sends = so.sends;
        stands = subst (λ (come : Come). StandsSo t.domain come so.sends after.relay) (sym come_with_segment) stands;
        handed = handed_still t before after takes.same (ap (λ outlets. map (λ (outlet : Outlet). outlet.reported) outlets.items) takes.outlets_same) outs so.sends
            so.sends (λ _ _ _ _. refl) so.handed;
        drops = subst (λ (come : Come). AreDropsOf t.domain number come after.relay.tables after.relay.edge.drops.items) (sym come_with_segment)
            (subst (λ (n : ℕ). AreDropsOf t.domain number (with_segment (come_to before) port.link segment) n after.relay.edge.drops.items) (sym takes.tables_same)
            (subst (λ list. AreDropsOf t.domain number (with_segment (come_to before) port.link segment) before.relay.tables list.items) (sym takes.drops_same)
            drops));
      }

  -- and it is under way with it
  pub segment_under_way : IsUnderWay t number after
  segment_under_way = takes_under_way t number before after
      (record {
        stays = takes.same;
        reported = ap (λ outlets. map (λ (outlet : Outlet). outlet.reported) outlets.items) takes.outlets_same;
        outs = outs;
        agenda = agenda;
        links_in = ap (map link_of) ins ∙ map_kept link_of before.ins.items index port (with_item_at port (Item segment)) there refl;
        tables = λ items. subst AreItems (sym tables) items;
        taken = λ taken. takes.tables_same ∙ taken ∙ ap (λ carried. length (items_in carried)) (sym tables);
        early = omega (arith, takes.tables_same, under_way.early);
        ins = λ items. subst (All CarriesItems) (sym ins)
            (All-set CarriesItems before.ins.items index (with_item_at port (Item segment))
            (items_and_one port.pipe.items segment (all_at CarriesItems before.ins.items index port items there)) items);
      }) under_way stands_with_segment

-- a worker goes on if its bridge takes what arrived
pub goes_with_segment : (index : ℕ) (before after : Worker) (port : SegmentPort) (segment : Segment) → slice_get before.ins.items index ≡ Some port →
    after.ins.items ≡ set before.ins.items index (with_item_at port (Item segment)) → TakesSegment index segment before.relay after.relay →
    after.agenda ≡ before.agenda → after.tables ≡ before.tables → after.outs ≡ before.outs → GoesFurther before after
goes_with_segment index before after port segment there ins takes agenda tables outs = record {
  same = record {
    number = takes.same.number;
    cycles = takes.same.cycles;
    agenda = agenda;
    tables = ap (λ end. end.pipe) tables;
    ins = ap wires_of ins ∙ wires_with before.ins.items index port segment there;
    outs = ap (λ ports. wires_of ports.items) outs;
  };
  under_way = λ t number.
      segment_under_way t number index before after port segment there ins takes agenda (ap (λ end. end.items) tables) (ap (λ ports. ports.items) outs);
}
