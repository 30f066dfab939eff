-- A bridge on its thread passes on what its links have sent.
use Rattle.std.proofs.Common.{◌≡◌, ◌∙◌, ℕ, ◌+◌, ◌<◌, ◌≤◌, Bool, true, false, List, [], ◌∷◌, ◌++◌, Some, All, Contains, Result, Ok, Err, IfErr}
use Rattle.std.proofs.Common.{length, length-append, map, set, set-set, get_or, refl, sym, ap, subst, arith, inl, inr, append-nil, option_map}
use Rattle.std.specs.Prelude.{◌⊎◌, filter, if◌then◌else◌, nat_lt, slice_get, take, OnErr, OnOk}
use Rattle.std.specs.Arc.{arc_value}
use Rattle.std.proofs.lemmas.Bool.{cases_eq, cases_lt, cond-false, cond-true, le-ltb, lt-ltb}
use Rattle.std.proofs.lemmas.List.{get_or_append_left, set-get_or, take_more}
use Rattle.std.proofs.lemmas.List.Elements.{All-contains, All-set, filter-append}
use Rattle.std.proofs.lemmas.Option.{get_or_from_slice_get, same_Some, slice_get-get_or, slice_get-map, slice_get_within}
use Rattle.cqf_lists.proofs.Ranks.{kept_at_rank, rank}
use Rattle.cqf_lists.proofs.Members.{all_from_members, contains_at, contains_from_filter, contains_from_map, contains_map}
use Rattle.cqf_model.specs.declared.frames.Sent.{Sent}
use Rattle.cqf_model.specs.Limits.{most_cycles}
use Rattle.cqf_relay.specs.declared.log.ArrivedFrame.{ArrivedFrame}
use Rattle.cqf_relay.specs.declared.moving.Segment.{Segment}
use Rattle.cqf_relay.specs.declared.outlet.Outlet.{Outlet}
use Rattle.cqf_relay.specs.declared.relay.Relay.{Relay}
use Rattle.cqf_relay.specs.declared.wire.Wire.{Wire}
use Rattle.cqf_relay.specs.Segments.{AreNextSegments, IsNextSegment, IsSegmentOf, Sendings, all_frames, batch_at, came_in, end_of_segments, frames_of}
use Rattle.cqf_relay.specs.Logs.{is_in}
use Rattle.cqf_relay.specs.Sending.{IsTidy}
use Rattle.cqf_agenda.specs.Links.{links_from}
use Rattle.cqf_relay.specs.Standing.{Come, GoesOnAlone, HandsOn, IsOutletOf, IsWithin, KeepsBack, StandsSo, StaysAs, is_onward, link_in, link_out, reported_by}
use Rattle.cqf_lists.proofs.Written.{map_kept, slice_get-set_same}
use Rattle.cqf_relay.proofs.Handing.{all_at}
use Rattle.cqf_relay.proofs.Sources.{segment_in_cycle, segment_not_in_cycle}
use Rattle.cqf_worker_loops.specs.declared.carried.Carried.{Carried}
use Rattle.cqf_worker_loops.specs.declared.carried.Carried.TheVariants.{Item}
use Rattle.cqf_worker_loops.specs.declared.worker.Worker.{Worker}
use Rattle.cqf_worker_loops.specs.declared.pipe_ends.NotPut.{NotPut}
use Rattle.cqf_worker_loops.specs.declared.pipe_ends.NotPut.TheVariants.{Full}
use Rattle.cqf_worker_loops.specs.PipeEnds.{End, item_back}
use Rattle.cqf_worker_loops.specs.PipeRule.{most_items}
use Rattle.cqf_worker_loops.specs.Rows.{wire_at, with_item_at, wires_of}
use Rattle.cqf_worker_loops.specs.Stepping.{GoesFurther, HandsOnAt, HasComeSoFar, HasHandedOn, HasPutSegments, IsUnderWay, SomeUnderWay}
use Rattle.cqf_worker_loops.specs.Stops.{AreItems}
use Rattle.cqf_worker_loops.specs.Workers.{AreDropsOf, HasItsOffers, HasPut, MayHaveComeTo, Offering, SegmentPort}
use Rattle.cqf_worker_loops.specs.Workers.{come_to, items_in, link_of, links_onward, segments_at, segments_in}
use Rattle.cqf_worker_loops.proofs.Ports.{as_long, ascend_by, end_more, frames_more, from_ascends, items_in_more, segments_at_other, segments_at_own}
use Rattle.cqf_worker_loops.proofs.Ports.{made_of_some, member_of_set, next_more, one_of_key, onward_ascends, wires_with}
use Rattle.cqf_worker_loops.proofs.Stopping.{CarriesItems, items_and_one}
use Rattle.cqf_worker_loops.proofs.UnderWay.{IsHandedAt, come_same, handed_still, may_same, takes_under_way}

-- a port with one more segment, which may come next
put_more : (reported : ℕ) (port : SegmentPort) (segment : Segment) → HasPut reported port → IsNextSegment reported segment → reported < segment.upto →
    HasPut segment.upto (with_item_at port (Item segment))
put_more reported port segment put next more =
    let following : IsNextSegment (end_of_segments 0 (segments_in port)) segment = subst (λ (n : ℕ). IsNextSegment n segment) (sym put.ends) next in
    record {
      items = items_and_one port.pipe.items segment put.items;
      next = subst (AreNextSegments 0) (sym (items_in_more port.pipe.items segment)) (next_more 0 (segments_in port) segment put.next following);
      ends = ap (end_of_segments 0) (items_in_more port.pipe.items segment) ∙ end_more 0 (segments_in port) segment;
      few = omega (arith, put.few, more, length-append port.pipe.items (Item segment ∷ []));
    }

module _ (t : Offering) (number index k : ℕ) (before after : Worker) (port : SegmentPort) (segment : Segment)
    (hands : HandsOn index before.relay after.relay segment)
    (onward : hands.outlet.wire.onward ≡ true) (more : hands.outlet.reported < hands.outlet.sent) (there : slice_get before.outs.items k ≡ Some port)
    (link : port.link ≡ hands.outlet.trace.link) (outs : after.outs.items ≡ set before.outs.items k (with_item_at port (Item segment)))
    (agenda : after.agenda ≡ before.agenda) (tables : after.tables.items ≡ before.tables.items) (ins : after.ins.items ≡ before.ins.items)
    (under_way : IsUnderWay t number before) where
  -- the port with the segment
  abbrev new_port : SegmentPort
  new_port = with_item_at port (Item segment)

  -- its links are the same as before
  links_put : map link_of after.outs.items ≡ links_onward t.domain number
  links_put = ap (map link_of) outs ∙ map_kept link_of before.outs.items k port new_port there refl ∙ under_way.links_out

  links_left : map link_out after.relay.outlets.items ≡ links_from t.domain number
  links_left = hands.stays.links_out ∙ under_way.outlets

  -- the port of the link is the new one
  port_of_link : (p : SegmentPort) → Contains after.outs.items p → p.link ≡ hands.outlet.trace.link → p ≡ new_port
  port_of_link p held same =
      let own : slice_get after.outs.items k ≡ Some new_port =
      ap (λ (ports : List SegmentPort). slice_get ports k) outs
      ∙ slice_get-set_same before.outs.items k new_port (slice_get_within before.outs.items k port there) in
      one_of_key link_of after.outs.items p new_port
      (ascend_by link_of after.outs.items (links_onward t.domain number) links_put (onward_ascends t.domain number)) held
      (contains_at after.outs.items k new_port own) (same ∙ sym link)

  -- and each other one was there
  port_of_other : (p : SegmentPort) → Contains after.outs.items p → (p.link ≡ hands.outlet.trace.link → ⊥) → Contains before.outs.items p
  port_of_other p held apart =
      elim (member_of_set before.outs.items k new_port p (subst (λ (ports : List SegmentPort). Contains ports p) outs held)) [
        | inl same ↦ absurd (apart (ap link_of same ∙ link))
        | inr old ↦ old
      ]

  -- the link is the one that has passed on
  outlet_of_link : (o : Outlet) → Contains after.relay.outlets.items o → o.trace.link ≡ hands.outlet.trace.link → o ≡ hands.handed
  outlet_of_link o held same =
      let own : slice_get after.relay.outlets.items index ≡ Some hands.handed =
      ap (λ (outlets : List Outlet). slice_get outlets index) hands.is
      ∙ slice_get-set_same before.relay.outlets.items index hands.handed (slice_get_within before.relay.outlets.items index hands.outlet hands.was) in
      one_of_key link_out after.relay.outlets.items o hands.handed
      (ascend_by link_out after.relay.outlets.items (links_from t.domain number) links_left (from_ascends t.domain number)) held
      (contains_at after.relay.outlets.items index hands.handed own) (same ∙ sym hands.takes.same.link)

  -- and each other one was there
  outlet_of_other : (o : Outlet) → Contains after.relay.outlets.items o → (o.trace.link ≡ hands.outlet.trace.link → ⊥) →
      Contains before.relay.outlets.items o
  outlet_of_other o held apart =
      elim (member_of_set before.relay.outlets.items index hands.handed o (subst (λ (os : List Outlet). Contains os o) hands.is held)) [
        | inl same ↦ absurd (apart (ap link_out same ∙ hands.takes.same.link))
        | inr old ↦ old
      ]

  -- the link was one of the bridge's links
  outlet_there : Contains before.relay.outlets.items hands.outlet
  outlet_there = contains_at before.relay.outlets.items index hands.outlet hands.was

  -- the segment may come next after those already passed on, and ends at the cycle that the link has reached
  segment_is_next : IsNextSegment hands.outlet.reported segment
  segment_is_next = hands.is_next (All-contains IsTidy before.relay.outlets.items hands.outlet under_way.tidy outlet_there)

  -- and that is within the worker's cycles
  segment_within : segment.upto ≤ before.relay.cycles
  segment_within =
      omega (arith, hands.takes.upto, All-contains (IsWithin before.relay.cycles) before.relay.outlets.items hands.outlet under_way.within outlet_there)

  -- so through each port went what its link has passed on
  put_with_segment : (p : SegmentPort) (o : Outlet) → Contains after.outs.items p → Contains after.relay.outlets.items o → p.link ≡ o.trace.link → HasPut o.reported p
  put_with_segment p o held here same = elim (cases_eq o.trace.link hands.outlet.trace.link) [
    | inl own ↦
        let new : HasPut segment.upto new_port =
        put_more hands.outlet.reported port segment
        (under_way.outs port hands.outlet (contains_at before.outs.items k port there) outlet_there link) segment_is_next (omega (arith, more, hands.takes.upto)) in
        let reported : segment.upto ≡ o.reported =
        hands.takes.upto ∙ sym hands.takes.reported ∙ ap (λ (it : Outlet). it.reported) (sym (outlet_of_link o here own)) in
        subst (HasPut o.reported) (sym (port_of_link p held (same ∙ own))) (subst (λ (n : ℕ). HasPut n new_port) reported new)
    | inr apart ↦ under_way.outs p o (port_of_other p held (λ e. apart (sym same ∙ e))) (outlet_of_other o here apart) same
  ]

  -- what has arrived is the same
  same_come : come_to after ≡ come_to before
  same_come = come_same before after agenda tables ins

  -- what the link sent went through its port, for each cycle that the link has now passed on
  handed_with_segment : (sends : Sendings) → StandsSo t.domain (come_to before) sends before.relay →
      IsHandedAt t before.outs.items sends hands.outlet.trace.link hands.outlet.reported →
      IsHandedAt t after.outs.items sends hands.outlet.trace.link segment.upto
  handed_with_segment sends stands old cycle goes =
      let d = t.domain in
      let l = hands.outlet.trace.link in
      let reported = hands.outlet.reported in
      let made : List ArrivedFrame = map (came_in d l cycle) (batch_at (sends l) cycle) in
      let is : IsSegmentOf d l (sends l) reported segment = (hands.is_segment d (come_to before) sends hands.outlet stands hands.was onward).0 in
      let few : segment.upto ≤ 4294967295 = omega (arith, segment_within, under_way.few) in
      let own : segments_at after.outs.items l ≡ segments_at before.outs.items l ++ segment ∷ [] =
      ap (λ (ports : List SegmentPort). segments_at ports l) outs
      ∙ subst
      (λ (m : ℕ). segments_at (set before.outs.items k new_port) m ≡ segments_at before.outs.items m ++ segment ∷ []) link
      (segments_at_own before.outs.items k port segment
      (ascend_by link_of before.outs.items (links_onward d number) under_way.links_out (onward_ascends d number)) there) in
      let parts : filter (is_in cycle) (all_frames (segments_at after.outs.items l))
      ≡ filter (is_in cycle) (all_frames (segments_at before.outs.items l)) ++ filter (is_in cycle) (frames_of segment) =
      ap (λ (segments : List Segment). filter (is_in cycle) (all_frames segments)) own
      ∙ ap (filter (is_in cycle)) (frames_more (segments_at before.outs.items l) segment)
      ∙ filter-append (is_in cycle) (all_frames (segments_at before.outs.items l)) (frames_of segment) in
      let so_far : filter (is_in cycle) (all_frames (segments_at before.outs.items l)) ≡ (if nat_lt cycle reported then made else []) = old cycle goes in
      elim (cases_lt cycle reported) [
        | inl early ↦
            let first : filter (is_in cycle) (all_frames (segments_at before.outs.items l)) ≡ made =
            so_far ∙ cond-true (nat_lt cycle reported) made [] (lt-ltb cycle reported early) in
            let rest : filter (is_in cycle) (frames_of segment) ≡ [] =
            segment_not_in_cycle d l (sends l) reported segment is few cycle (inl early) in
            parts ∙ (λ i. first i ++ rest i) ∙ append-nil made
            ∙ sym (cond-true (nat_lt cycle segment.upto) made [] (lt-ltb cycle segment.upto (omega (arith, early, more, hands.takes.upto))))
        | inr late ↦
            let first : filter (is_in cycle) (all_frames (segments_at before.outs.items l)) ≡ [] =
            so_far ∙ cond-false (nat_lt cycle reported) made [] (le-ltb cycle reported late) in
            elim (cases_lt cycle segment.upto) [
              | inl within ↦
                  let rest : filter (is_in cycle) (frames_of segment) ≡ made =
                  segment_in_cycle d l (sends l) reported segment is few cycle late within in
                  parts ∙ (λ i. first i ++ rest i) ∙ sym (cond-true (nat_lt cycle segment.upto) made [] (lt-ltb cycle segment.upto within))
              | inr past ↦
                  let rest : filter (is_in cycle) (frames_of segment) ≡ [] =
                  segment_not_in_cycle d l (sends l) reported segment is few cycle (inr past) in
                  parts ∙ (λ i. first i ++ rest i) ∙ sym (cond-false (nat_lt cycle segment.upto) made [] (le-ltb cycle segment.upto past))
            ]
      ]

  -- so each link has passed on the cycles that it records
  each_handed : (sends : Sendings) → StandsSo t.domain (come_to before) sends before.relay → All (HasHandedOn t before sends) before.relay.outlets.items →
      (o : Outlet) → Contains after.relay.outlets.items o → HasHandedOn t after sends o
  each_handed sends stands handed o here = elim (cases_eq o.trace.link hands.outlet.trace.link) [
    | inl own ↦
        let old = All-contains (HasHandedOn t before sends) before.relay.outlets.items hands.outlet handed outlet_there in
        let reported : segment.upto ≡ o.reported =
        hands.takes.upto ∙ sym hands.takes.reported ∙ ap (λ (it : Outlet). it.reported) (sym (outlet_of_link o here own)) in
        record {
          each = subst (λ (l : ℕ). IsHandedAt t after.outs.items sends l o.reported) (sym own)
              (subst (IsHandedAt t after.outs.items sends hands.outlet.trace.link) reported (handed_with_segment sends stands old.each));
        }
    | inr apart ↦
        let old = All-contains (HasHandedOn t before sends) before.relay.outlets.items o handed (outlet_of_other o here apart) in
        let same : segments_at after.outs.items o.trace.link ≡ segments_at before.outs.items o.trace.link =
        ap (λ (ports : List SegmentPort). segments_at ports o.trace.link) outs
        ∙ segments_at_other before.outs.items k port segment o.trace.link there (λ e. apart (sym e ∙ link)) in
        record {
          each = λ cycle goes. ap (λ (segments : List Segment). filter (is_in cycle) (all_frames segments)) same ∙ old.each cycle goes;
        }
  ]

  -- and its bridge is in the state that follows from what has arrived
  stands_with_put : MayHaveComeTo t after → HasComeSoFar t number after
  stands_with_put may =
      let so = under_way.come (may_same before after agenda tables ins t may) in
      record {
        sends = so.sends;
        stands = subst (λ (come : Come). StandsSo t.domain come so.sends after.relay) (sym same_come)
            (hands.stands t.domain (come_to before) so.sends so.stands);
        handed = all_from_members (HasHandedOn t after so.sends) after.relay.outlets.items (each_handed so.sends so.stands so.handed);
        drops = subst (λ (come : Come). AreDropsOf t.domain number come after.relay.tables after.relay.edge.drops.items) (sym same_come)
            (subst (λ (n : ℕ). AreDropsOf t.domain number (come_to before) n after.relay.edge.drops.items) (sym hands.same.tables)
            (subst (λ edge. AreDropsOf t.domain number (come_to before) before.relay.tables edge.drops.items) (sym hands.same.edge) so.drops));
      }

  -- each wire says whether its link ends in a bridge, also that of the link that has passed on
  wires_put : All (λ (o : Outlet). o.wire.onward ≡ is_onward t.domain o.trace.link) after.relay.outlets.items
  wires_put =
      let says : Outlet → Type 0 = λ o. o.wire.onward ≡ is_onward t.domain o.trace.link in
      let own : says hands.handed =
      ap (λ (wire : Wire). wire.onward) hands.takes.same.wire
      ∙ All-contains says before.relay.outlets.items hands.outlet under_way.wires outlet_there
      ∙ ap (is_onward t.domain) (sym hands.takes.same.link) in
      subst (All says) (sym hands.is) (All-set says before.relay.outlets.items index hands.handed own under_way.wires)

  -- so it is under way
  pub put_under_way : IsUnderWay t number after
  put_under_way = record {
    good_offers = under_way.good_offers;
    is_agenda = subst (HasItsOffers t number) (sym agenda) under_way.is_agenda;
    of_domain = ap arc_value hands.stays.domain ∙ under_way.of_domain;
    number_is = hands.stays.number ∙ under_way.number_is;
    few = omega (arith, hands.stays.cycles, under_way.few);
    tables = subst AreItems (sym tables) under_way.tables;
    tables_taken = hands.same.tables ∙ under_way.tables_taken ∙ ap (λ carried. length (items_in carried)) (sym tables);
    early = omega (arith, hands.same.tables, hands.stays.cycles, under_way.early);
    links_in = ap (map link_of) ins ∙ under_way.links_in;
    inlets = hands.stays.links_in ∙ under_way.inlets;
    ins = subst (All CarriesItems) (sym ins) under_way.ins;
    links_out = links_put;
    outlets = links_left;
    wires = wires_put;
    tidy = hands.stays.tidy under_way.tidy;
    within = subst (λ (cycles : ℕ). All (IsWithin cycles) after.relay.outlets.items) (sym hands.stays.cycles) (hands.stays.within under_way.within);
    outs = put_with_segment;
    come = stands_with_put;
  }

-- a worker goes on if its bridge passes a segment on
pub goes_with_put : (index k : ℕ) (before after : Worker) (port : SegmentPort) (segment : Segment) (at : HandsOnAt index k before) →
    HandsOn index before.relay after.relay segment → port ≡ at.at → after.outs.items ≡ set before.outs.items k (with_item_at port (Item segment)) →
    after.agenda ≡ before.agenda → after.tables ≡ before.tables → after.ins ≡ before.ins → GoesFurther before after
goes_with_put index k before after port segment at hands is outs agenda tables ins =
    let same : at.outlet ≡ hands.outlet = same_Some at.outlet hands.outlet (sym at.there ∙ hands.was) in
    let there : slice_get before.outs.items k ≡ Some port = at.its_port ∙ ap Some (sym is) in
    let link : port.link ≡ hands.outlet.trace.link = ap link_of is ∙ at.same_link ∙ ap link_out same in
    let onward : hands.outlet.wire.onward ≡ true = subst (λ (o : Outlet). o.wire.onward ≡ true) same at.onward in
    let more : hands.outlet.reported < hands.outlet.sent = subst (λ (o : Outlet). o.reported < o.sent) same at.more in
    record {
      same = record {
        number = hands.stays.number;
        cycles = hands.stays.cycles;
        agenda = agenda;
        tables = ap (λ end. end.pipe) tables;
        ins = ap (λ ports. wires_of ports.items) ins;
        outs = ap wires_of outs ∙ wires_with before.outs.items k port segment there;
      };
      under_way = λ t number.
          put_under_way t number index k before after port segment hands onward more there link outs agenda (ap (λ end. end.items) tables)
          (ap (λ ports. ports.items) ins);
    }

-- ---- a segment that couldn't be passed on

module _ (index reported : ℕ) (older between after : Relay) (segment : Segment) (hands : HandsOn index older between segment)
    (keeps : KeepsBack index reported segment between after) (by_then : slice_get (reported_by older) index ≡ Some reported) where
  -- a bridge that gets it back has passed on as much as before
  pub reported_again : reported_by after ≡ reported_by older
  reported_again =
      keeps.reported_by_then ∙ ap (λ (xs : List ℕ). set xs index reported) hands.reported ∙ set-set (reported_by older) index segment.upto reported
      ∙ ap (set (reported_by older) index) (sym (get_or_from_slice_get (reported_by older) index reported reported by_then))
      ∙ set-get_or (reported_by older) index reported

  -- and is otherwise the same
  pub stays_again : StaysAs older after
  stays_again = record {
    domain = keeps.same.domain ∙ hands.same.domain;
    number = keeps.same.number ∙ hands.same.number;
    cycles = keeps.same.cycles ∙ hands.same.cycles;
    links_in = ap (λ inlets. map link_in inlets.items) (keeps.same.inlets ∙ hands.same.inlets);
    links_out = keeps.links ∙ hands.stays.links_out;
    wires = keeps.wires ∙ hands.stays.wires;
    tidy = keeps.tidy_again older hands by_then;
    within = λ within.
        let now = hands.stays.within within in
        let kept : IsWithin older.cycles keeps.kept =
        omega (arith, keeps.keeps.as_far, all_at (IsWithin older.cycles) between.outlets.items index keeps.outlet now keeps.was) in
        subst (All (IsWithin older.cycles)) (sym keeps.is) (All-set (IsWithin older.cycles) between.outlets.items index keeps.kept kept now);
  }

-- a worker goes on if its bridge changes only by what it takes in
module _ (before after : Worker) (stays : StaysAs before.relay after.relay) (reported : reported_by after.relay ≡ reported_by before.relay)
    (same_tables : after.relay.tables ≡ before.relay.tables) (same_drops : after.relay.edge.drops ≡ before.relay.edge.drops)
    (agenda : after.agenda ≡ before.agenda) (tables : after.tables ≡ before.tables) (ins : after.ins.items ≡ before.ins.items)
    (outs : after.outs.items ≡ before.outs.items) where
  -- the same has arrived
  come_still : come_to after ≡ come_to before
  come_still = come_same before after agenda (ap (λ end. end.items) tables) ins

  -- the worker is under way if its links have sent this, and the same as before in the cycles that they have passed on
  pub goes_with_same :
      ((t : Offering) (number : ℕ) (sends : Sendings) → IsUnderWay t number before → MayHaveComeTo t before →
      StandsSo t.domain (come_to before) sends before.relay →
      (more : Sendings) × StandsSo t.domain (come_to before) more after.relay
      × ((outlet : Outlet) → Contains before.relay.outlets.items outlet → (cycle : ℕ) → cycle < outlet.reported →
      batch_at (more outlet.trace.link) cycle ≡ batch_at (sends outlet.trace.link) cycle)) → GoesFurther before after
  goes_with_same stands = record {
    same = record {
      number = stays.number;
      cycles = stays.cycles;
      agenda = agenda;
      tables = ap (λ end. end.pipe) tables;
      ins = ap wires_of ins;
      outs = ap wires_of outs;
    };
    under_way = λ t number under_way.
        takes_under_way t number before after
        (record {
          stays = stays;
          reported = reported;
          outs = outs;
          agenda = agenda;
          links_in = ap (map link_of) ins;
          tables = λ items. subst (λ end. AreItems end.items) (sym tables) items;
          taken = λ taken. same_tables ∙ taken ∙ ap (λ end. length (items_in end.items)) (sym tables);
          early = omega (arith, same_tables, under_way.early);
          ins = λ items. subst (All CarriesItems) (sym ins) items;
        }) under_way (λ may.
        let can : MayHaveComeTo t before = may_same before after agenda (ap (λ end. end.items) tables) ins t may in
        let so = under_way.come can in
        let now = stands t number so.sends under_way can so.stands in
        record {
          sends = now.0;
          stands = subst (λ (come : Come). StandsSo t.domain come now.0 after.relay) (sym come_still) now.1;
          handed = handed_still t before after stays reported outs so.sends now.0 now.2 so.handed;
          drops = subst (λ (come : Come). AreDropsOf t.domain number come after.relay.tables after.relay.edge.drops.items) (sym come_still)
              (subst (λ (n : ℕ). AreDropsOf t.domain number (come_to before) n after.relay.edge.drops.items) (sym same_tables)
              (subst (λ list. AreDropsOf t.domain number (come_to before) before.relay.tables list.items) (sym same_drops) so.drops));
        });
  }

-- so it does if the bridge gets a segment back
pub goes_with_back : (index reported : ℕ) (before after : Worker) (between : Relay) (segment back : Segment) → HandsOn index before.relay between segment →
    KeepsBack index reported back between after.relay → back ≡ segment → slice_get (reported_by before.relay) index ≡ Some reported → after.agenda ≡ before.agenda →
    after.tables ≡ before.tables → after.ins.items ≡ before.ins.items → after.outs.items ≡ before.outs.items → GoesFurther before after
goes_with_back index reported before after between segment back hands kept is by_then agenda tables ins outs =
    let keeps : KeepsBack index reported segment between after.relay = subst (λ (it : Segment). KeepsBack index reported it between after.relay) is kept in
    goes_with_same before after (stays_again index reported before.relay between after.relay segment hands keeps by_then)
    (reported_again index reported before.relay between after.relay segment hands keeps by_then) (keeps.same.tables ∙ hands.same.tables)
    (ap (λ edge. edge.drops) (keeps.same.edge ∙ hands.same.edge)) agenda tables ins outs
    (λ t number sends under_way may stands.
    (sends, keeps.again before.relay hands by_then t.domain (come_to before) sends stands, λ outlet held cycle early. refl))

-- and if the bridge's links have gone on
pub goes_with_sends : (before after : Worker) → GoesOnAlone before.relay after.relay → after.agenda ≡ before.agenda → after.tables ≡ before.tables →
    after.ins ≡ before.ins → after.outs ≡ before.outs → GoesFurther before after
goes_with_sends before after goes agenda tables ins outs =
    goes_with_same before after goes.same goes.reported_same goes.tables_same goes.drops_same agenda tables (ap (λ ports. ports.items) ins)
    (ap (λ ports. ports.items) outs)
    (λ t number sends under_way may stands.
    let now = goes.stands t.domain (come_to before) sends stands may.tables in (
      now.0,
      now.1,
      λ outlet held cycle early.
          let more = now.2 outlet.trace.link in
          let of : IsOutletOf t.domain before.relay.number (come_to before) (sends outlet.trace.link) outlet =
          All-contains (λ (it : Outlet). IsOutletOf t.domain before.relay.number (come_to before) (sends it.trace.link) it) before.relay.outlets.items outlet
          stands.outlets held in
          ap (λ (xs : List (List Sent)). batch_at xs cycle) more.1
          ∙ get_or_append_left (sends outlet.trace.link) more.0 [] cycle (omega (arith, early, of.handed, of.as_far)),
    ))

-- and if the bridge, and what was taken and put, are the same
pub goes_as_before : (before after : Worker) → after.relay ≡ before.relay → after.agenda ≡ before.agenda → after.tables ≡ before.tables →
    after.ins.items ≡ before.ins.items → after.outs.items ≡ before.outs.items → GoesFurther before after
goes_as_before before after relay agenda tables ins outs =
    let stays : StaysAs before.relay after.relay = subst (StaysAs before.relay) (sym relay)
    (record { domain = refl; number = refl; cycles = refl; links_in = refl; links_out = refl; wires = refl; tidy = λ tidy. tidy; within = λ within. within }) in
    goes_with_same before after stays (ap reported_by relay) (ap (λ (s : Relay). s.tables) relay) (ap (λ (s : Relay). s.edge.drops) relay) agenda tables
    ins outs (λ t number sends under_way may stands.
    (sends, subst (StandsSo t.domain (come_to before) sends) (sym relay) stands, λ outlet held cycle early. refl))

-- ---- if the worker gives up

-- a port is that of a link of the bridge that ends in another bridge
pub record HasOutlet (t : Offering) (w : Worker) (port : SegmentPort) : Type 0 where
  pub outlet : Outlet
  pub there : Contains w.relay.outlets.items outlet
  pub link : port.link ≡ outlet.trace.link
  pub onward : is_onward t.domain port.link ≡ true

-- and so is each port
pub outlet_of_port : (t : Offering) (number : ℕ) (w : Worker) (port : SegmentPort) → IsUnderWay t number w → Contains w.outs.items port → HasOutlet t w port
outlet_of_port t number w port under_way held =
    let one : Contains (links_onward t.domain number) port.link =
    subst (λ (links : List ℕ). Contains links port.link) under_way.links_out (contains_map link_of w.outs.items port held) in
    let from = contains_from_filter (is_onward t.domain) (links_from t.domain number) port.link one in
    let out = contains_from_map link_out w.relay.outlets.items port.link
    (subst (λ (links : List ℕ). Contains links port.link) (sym under_way.outlets) from.0) in
    record { outlet = out.0; there = out.1; link = sym out.2; onward = from.1 }

-- at each port at most as many segments were put as there are cycles
pub few_put : (t : Offering) (number : ℕ) (w : Worker) (port : SegmentPort) → IsUnderWay t number w → Contains w.outs.items port →
    length port.pipe.items ≤ most_cycles
few_put t number w port under_way held =
    let from = outlet_of_port t number w port under_way held in
    omega (
      arith,
      (under_way.outs port from.outlet held from.there from.link).few,
      (All-contains IsTidy w.relay.outlets.items from.outlet under_way.tidy from.there).handed,
      All-contains (IsWithin w.relay.cycles) w.relay.outlets.items from.outlet under_way.within from.there,
      under_way.few,
    )

-- and nothing but segments
pub segments_put : (t : Offering) (number : ℕ) (w : Worker) (port : SegmentPort) → IsUnderWay t number w → Contains w.outs.items port → CarriesItems port
segments_put t number w port under_way held =
    let from = outlet_of_port t number w port under_way held in
    (under_way.outs port from.outlet held from.there from.link).items

-- a worker that has put nothing more has put only segments
pub nothing_put : (before after : Worker) → SomeUnderWay before → after.outs.items ≡ before.outs.items → HasPutSegments before after
nothing_put before after some outs = record {
  outs = ap wires_of outs;
  items = subst (All CarriesItems) (sym outs) (all_from_members CarriesItems before.outs.items (λ port held.
      segments_put some.traffic some.number before port some.is held));
  room = subst (All (λ (port : SegmentPort). length port.pipe.items < most_items)) (sym outs)
      (all_from_members (λ (port : SegmentPort). length port.pipe.items < most_items) before.outs.items (λ port held.
      omega (arith, few_put some.traffic some.number before port some.is held)));
}

-- and so has one that may have put a segment at a port
pub maybe_put : (before after : Worker) (k : ℕ) (port new : SegmentPort) (segment : Segment) → SomeUnderWay before → slice_get before.outs.items k ≡ Some port →
    after.outs.items ≡ set before.outs.items k new → new.link ≡ port.link → new.pipe.pipe ≡ port.pipe.pipe →
    (new.pipe.items ≡ port.pipe.items) ⊎ (new.pipe.items ≡ port.pipe.items ++ Item segment ∷ []) → HasPutSegments before after
maybe_put before after k port new segment some there outs link pipe may =
    let held : Contains before.outs.items port = contains_at before.outs.items k port there in
    let old = segments_put some.traffic some.number before port some.is held in
    let few = few_put some.traffic some.number before port some.is held in
    let so = nothing_put before before some refl in
    let carries : CarriesItems new = elim may [
      | inl same ↦ subst AreItems (sym same) old
      | inr more ↦ subst AreItems (sym more) (items_and_one port.pipe.items segment old)
    ] in
    let room : length new.pipe.items < most_items = elim may [
      | inl same ↦ omega (arith, ap length same, few)
      | inr more ↦ omega (arith, ap length more ∙ length-append port.pipe.items (Item segment ∷ []), few)
    ] in
    record {
      outs = ap wires_of outs ∙ map_kept wire_at before.outs.items k port new there (λ i. (link i, pipe i));
      items = subst (All CarriesItems) (sym outs) (All-set CarriesItems before.outs.items k new carries so.items);
      room = subst (All (λ (it : SegmentPort). length it.pipe.items < most_items)) (sym outs)
          (All-set (λ (it : SegmentPort). length it.pipe.items < most_items) before.outs.items k new room so.room);
    }

-- ---- consecutive steps

-- at first a worker is unchanged
pub goes_nowhere : (w : Worker) → GoesFurther w w
goes_nowhere w = record {
  same = record { number = refl; cycles = refl; agenda = refl; tables = refl; ins = refl; outs = refl };
  under_way = λ t number under_way. under_way;
}

-- and then it goes on step by step
pub goes_further : (first between after : Worker) → GoesFurther first between → GoesFurther between after → GoesFurther first after
goes_further first between after early late = record {
  same = record {
    number = late.same.number ∙ early.same.number;
    cycles = late.same.cycles ∙ early.same.cycles;
    agenda = late.same.agenda ∙ early.same.agenda;
    tables = late.same.tables ∙ early.same.tables;
    ins = late.same.ins ∙ early.same.ins;
    outs = late.same.outs ∙ early.same.outs;
  };
  under_way = λ t number under_way. late.under_way t number (early.under_way t number under_way);
}

-- it is under way still
pub some_further : (before after : Worker) → SomeUnderWay before → GoesFurther before after → SomeUnderWay after
some_further before after some goes = record {
  traffic = some.traffic;
  number = some.number;
  is = goes.under_way some.traffic some.number some.is;
}

-- if it then gives up, it has put only segments
pub put_further : (first between after : Worker) → GoesFurther first between → HasPutSegments between after → HasPutSegments first after
put_further first between after goes put = record { outs = put.outs ∙ goes.same.outs; items = put.items; room = put.room }

-- and so it has if it has put nothing more since it went on
pub gives_up : (first between after : Worker) → SomeUnderWay first → GoesFurther first between → after.outs.items ≡ between.outs.items →
    HasPutSegments first after
gives_up first between after some goes outs =
    put_further first between after goes (nothing_put between after (some_further first between some goes) outs)

-- a fact holds also if there is a fault
pub on_fault : {V F : Type 0} (result : Result V F) (P : Type 0) → P → OnErr result P
on_fault (Ok v) P so = tt
on_fault (Err fault) P so = so

-- if a call does one thing on success and another with a fault, it does either
pub either_way : {V F : Type 0} (result : Result V F) (P Q : Type 0) → OnOk result P → IfErr result (λ fault. Q) → Q ⊎ P
either_way (Ok v) P Q done failed = inr done
either_way (Err fault) P Q done failed = inl failed

-- the cycle up to which the link at an index has passed on
pub reported_there : (outlets xs : List Outlet) (index : ℕ) (outlet read : Outlet) (reported : ℕ) → slice_get outlets index ≡ Some outlet → xs ≡ outlets →
    read ≡ get_or xs index read → reported ≡ read.reported → slice_get (map (λ (o : Outlet). o.reported) outlets) index ≡ Some reported
reported_there outlets xs index outlet read reported there same is by =
    let own : read ≡ outlet =
    is ∙ ap (λ (os : List Outlet). get_or os index read) same ∙ get_or_from_slice_get outlets index outlet read there in
    slice_get-map (λ (o : Outlet). o.reported) outlets index
    ∙ ap (option_map (λ (o : Outlet). o.reported)) there
    ∙ ap Some (sym (by ∙ ap (λ (o : Outlet). o.reported) own))

-- a port at which nothing was put is unchanged
pub port_same : (ports : List SegmentPort) (k : ℕ) (port : SegmentPort) (new : End (Carried Segment)) → port ≡ get_or ports k port → new.pipe ≡ port.pipe.pipe →
    new.items ≡ port.pipe.items → set ports k (record { link = port.link; pipe = new }) ≡ ports
port_same ports k port new is pipe same =
    ap (λ (end : End (Carried Segment)). set ports k (record { link = port.link; pipe = end })) (λ i. record { pipe = pipe i; items = same i })
    ∙ ap (set ports k) is ∙ set-get_or ports k port

-- a port at which an item was put has one more
pub port_more : (ports : List SegmentPort) (k : ℕ) (port : SegmentPort) (new : End (Carried Segment)) (segment : Segment) → new.pipe ≡ port.pipe.pipe →
    new.items ≡ port.pipe.items ++ Item segment ∷ [] → set ports k (record { link = port.link; pipe = new }) ≡ set ports k (with_item_at port (Item segment))
port_more ports k port new segment pipe more =
    ap (λ (end : End (Carried Segment)). set ports k (record { link = port.link; pipe = end })) (λ i. record { pipe = pipe i; items = more i })

-- the segment that comes back is the one that wasn't put
pub back_of : (refused : NotPut (Carried Segment)) (inner : Carried Segment) (back segment : Segment) → refused ≡ Full inner → inner ≡ Item back →
    item_back refused ≡ Item segment → back ≡ segment
back_of refused inner back segment full item is =
    let same : Item back ≡ Item segment = sym item ∙ ap item_back (sym full) ∙ is in
    cc

-- a bridge that has passed a segment on has the same number of links
pub outlets_inside : (index : ℕ) (before after : Relay) (outlet : Outlet) → StaysAs before after → slice_get before.outlets.items index ≡ Some outlet →
    index < length after.outlets.items
outlets_inside index before after outlet stays there =
    omega (
      arith,
      slice_get_within before.outlets.items index outlet there,
      as_long link_out link_out after.outlets.items before.outlets.items stays.links_out,
    )

-- the port at an index
pub port_there : (ports : List SegmentPort) (k : ℕ) (port : SegmentPort) → k < length ports → port ≡ get_or ports k port → slice_get ports k ≡ Some port
port_there ports k port inside is = slice_get-get_or ports k port inside ∙ ap Some (sym is)

-- a worker that has gone on has the same number of ports in
pub ports_still : (before after : Worker) → GoesFurther before after → length after.ins.items ≡ length before.ins.items
ports_still before after goes = as_long wire_at wire_at after.ins.items before.ins.items goes.same.ins

-- and its bridge the same number of inlets
pub inlet_inside : (w : Worker) (index : ℕ) → SomeUnderWay w → index < length w.ins.items → index < length w.relay.inlets.items
inlet_inside w index some inside =
    omega (arith, inside, as_long link_of link_in w.ins.items w.relay.inlets.items (some.is.links_in ∙ sym some.is.inlets))

-- and the same number of links
pub outlets_still : (before after : Worker) → SomeUnderWay before → GoesFurther before after →
    length after.relay.outlets.items ≡ length before.relay.outlets.items
outlets_still before after some goes =
    let now = goes.under_way some.traffic some.number some.is in
    as_long link_out link_out after.relay.outlets.items before.relay.outlets.items (now.outlets ∙ sym some.is.outlets)

-- ---- the port of the next link that ends in another bridge

-- how many elements are kept of one element more
pub rank_more : {X : Type 0} (keeps : X → Bool) (xs : List X) (index : ℕ) (d : X) → index < length xs →
    rank keeps xs (index + 1) ≡ rank keeps xs index + (if keeps (get_or xs index d) then 1 else 0)
rank_more {X} keeps xs index d inside =
    ap (λ (ys : List X). length (filter keeps ys)) (take_more xs index d inside)
    ∙ ap length (filter-append keeps (take index xs) (get_or xs index d ∷ []))
    ∙ length-append (filter keeps (take index xs)) (filter keeps (get_or xs index d ∷ []))
    ∙ ap (λ (n : ℕ). rank keeps xs index + n) (one (keeps (get_or xs index d)))
  where
    -- one, if it is kept
    one : (b : Bool) → length (if b then get_or xs index d ∷ [] else []) ≡ (if b then 1 else 0)
    one true = refl
    one false = refl

module _ (t : Offering) (number index : ℕ) (w : Worker) (under_way : IsUnderWay t number w) (xs : List Outlet) (read : Outlet)
    (all : xs ≡ w.relay.outlets.items) (is : read ≡ get_or xs index read) (inside : index < length w.relay.outlets.items) where
  -- the link at an index
  outlet_at : slice_get w.relay.outlets.items index ≡ Some read
  outlet_at = slice_get-get_or w.relay.outlets.items index read inside
      ∙ ap Some (sym (is ∙ ap (λ (os : List Outlet). get_or os index read) all))

  -- its number
  number_at : slice_get (links_from t.domain number) index ≡ Some read.trace.link
  number_at =
      ap (λ (links : List ℕ). slice_get links index) (sym under_way.outlets) ∙ slice_get-map link_out w.relay.outlets.items index
      ∙ ap (option_map link_out) outlet_at

  pub number_read : get_or (links_from t.domain number) index 0 ≡ read.trace.link
  number_read = get_or_from_slice_get (links_from t.domain number) index read.trace.link 0 number_at

  number_inside : index < length (links_from t.domain number)
  number_inside = slice_get_within (links_from t.domain number) index read.trace.link number_at

  -- whether it ends in a bridge
  pub onward_read : read.wire.onward ≡ is_onward t.domain (get_or (links_from t.domain number) index 0)
  onward_read =
      all_at (λ (o : Outlet). o.wire.onward ≡ is_onward t.domain o.trace.link) w.relay.outlets.items index read under_way.wires outlet_at
      ∙ ap (is_onward t.domain) (sym number_read)

  -- the port of the next link that ends in another bridge
  pub next_port : (port : ℕ) → port ≡ rank (is_onward t.domain) (links_from t.domain number) index →
      port + (if read.wire.onward then 1 else 0) ≡ rank (is_onward t.domain) (links_from t.domain number) (index + 1)
  next_port port so =
      (λ i. so i + (if onward_read i then 1 else 0)) ∙ sym (rank_more (is_onward t.domain) (links_from t.domain number) index 0 number_inside)

  -- and what the link passes on goes through the port
  pub hands_on_at : (port : ℕ) → port ≡ rank (is_onward t.domain) (links_from t.domain number) index → read.wire.onward ≡ true → read.reported < read.sent →
      HandsOnAt index port w
  hands_on_at port so onward more =
      let r = kept_at_rank (is_onward t.domain) (links_from t.domain number) index 0 number_inside (sym onward_read ∙ onward) in
      let there : slice_get (links_onward t.domain number) port ≡ Some read.trace.link =
      ap (slice_get (links_onward t.domain number)) so
      ∙ slice_get-get_or (links_onward t.domain number) (rank (is_onward t.domain) (links_from t.domain number) index) 0 r.inside
      ∙ ap Some (r.same ∙ number_read) in
      let at = made_of_some link_of (slice_get w.outs.items port) read.trace.link
      (sym (slice_get-map link_of w.outs.items port) ∙ ap (λ (links : List ℕ). slice_get links port) under_way.links_out ∙ there) in
      record { outlet = read; there = outlet_at; onward = onward; more = more; at = at.0; its_port = at.1; same_link = at.2 }

-- one link adds at most one port
pub one_at_most : (b : Bool) → (if b then 1 else 0) ≤ 1
one_at_most true = omega arith
one_at_most false = omega arith

-- what follows from a success holds if there was one
pub on_done : {V F : Type 0} (result : Result V F) (P Q : Type 0) → (P → Q) → OnOk result P → OnOk result Q
on_done (Ok v) P Q gives so = gives so
on_done (Err fault) P Q gives so = tt
