-- A bridge on its thread begins, and goes through all cycles.
use Rattle.std.proofs.Common.{◌≡◌, ◌∙◌, ℕ, ◌≤◌, true, List, [], ◌∷◌, All, Contains}
use Rattle.std.proofs.Common.{length, map, sym, ap, subst, arith, inl, inr, eq-eqb, ne_eqb}
use Rattle.std.specs.Prelude.{◌==◌, filter, if◌then◌else◌, nat_lt}
use Rattle.std.specs.List.{flat_map}
use Rattle.std.proofs.lemmas.Bool.{cases_eq, cases_lt, cond-false, cond-true, le-ltb, lt-ltb}
use Rattle.std.proofs.lemmas.List.{get_or_past}
use Rattle.std.proofs.lemmas.List.Elements.{All-contains, All-head, All-map, All-tail, All-weaker}
use Rattle.std.proofs.lemmas.Simd.{map-map}
use Rattle.cqf_lists.specs.Lists.{each_below}
use Rattle.cqf_lists.proofs.Members.{all_from_members, contains_cases, contains_from_map, contains_none, index_of_member}
use Rattle.cqf_model.specs.declared.frames.Sent.{Sent}
use Rattle.cqf_model.specs.Domain.{leaves}
use Rattle.cqf_model.specs.Limits.{most_cycles}
use Rattle.cqf_agenda.specs.Agenda.{offers_listed_at}
use Rattle.cqf_trace.specs.declared.trace.Mark.{Mark}
use Rattle.cqf_trace.specs.declared.trace.Trace.{Trace}
use Rattle.cqf_trace.proofs.Leaving.{leaving_listed}
use Rattle.cqf_trace.specs.Traces.{link_of_trace, links_of, mark_of_sent, starts_at}
use Rattle.cqf_relay.specs.declared.inlet.Inlet.{Inlet}
use Rattle.cqf_relay.specs.declared.log.ArrivedFrame.{ArrivedFrame}
use Rattle.cqf_relay.specs.declared.outlet.Outlet.{Outlet}
use Rattle.cqf_relay.specs.declared.wire.Wire.{Wire}
use Rattle.cqf_relay.specs.Segments.{AreNextSegments, Sendings, all_frames, batch_at, came_in, end_of_segments}
use Rattle.cqf_relay.specs.Logs.{is_in}
use Rattle.cqf_relay.specs.Sending.{IsTidy}
use Rattle.cqf_agenda.specs.Links.{links_from, links_into}
use Rattle.cqf_relay.specs.Standing.{Come, HasGoneOnBy, IsInletOf, IsOutletOf, IsOver, IsWithin, StandsSo, is_onward, link_in, link_out, nothing_yet}
use Rattle.cqf_relay.proofs.Handing.{all_at}
use Rattle.cqf_worker_loops.specs.declared.worker.Worker.{Worker}
use Rattle.cqf_worker_loops.specs.Rows.{wires_of}
use Rattle.cqf_worker_loops.specs.Stepping.{EndsSo, GoesFurther, HasHandedOn, HasPutSegments, IsUnderWay, KeepsBridgeTrace, SomeUnderWay}
use Rattle.cqf_worker_loops.specs.Stops.{AreItems}
use Rattle.cqf_worker_loops.specs.Workers.{AreDropsOf, HasGoneThrough, HasItsOffers, HasPut, HasSentAll, IsUnused, IsWorkerOf, SegmentPort}
use Rattle.cqf_worker_loops.specs.Workers.{MayHaveComeTo, MayWork, Offering, Works}
use Rattle.cqf_worker_loops.specs.Workers.{come_to, items_in, link_of, rows_in, segments_at, segments_in}
use Rattle.cqf_worker_loops.proofs.HandedSegments.{nothing_put, outlet_of_port, some_further}
use Rattle.cqf_worker_loops.proofs.Ports.{IsPartner, ascend_by, into_ascends, none_at, partner, segments_at_port}
use Rattle.cqf_worker_loops.proofs.Stopping.{CarriesItems}
use Rattle.cqf_worker_loops.proofs.UnderWay.{come_same, may_same}

-- ---- at first

module _ (t : Offering) (number : ℕ) (w : Worker) (few : w.relay.cycles ≤ most_cycles) (new : IsWorkerOf t number w) where
  -- nothing has arrived
  nothing_came : come_to w ≡ nothing_yet
  nothing_came = λ i. record {
    tables = map rows_in (items_in (new.no_tables i));
    offers = each_below (λ cycle. offers_listed_at w.agenda cycle ∷ []) (length (items_in (new.no_tables i)));
    upto = λ m. end_of_segments 0 (none_at w.ins.items m new.none_taken i);
    brought = λ m. all_frames (none_at w.ins.items m new.none_taken i);
  }

  -- no table was taken
  no_table_yet : w.relay.tables ≡ 0
  no_table_yet = new.stands.tables_taken

  -- and no link has sent
  link_at_first : (o : Outlet) → Contains w.relay.outlets.items o → IsOutletOf t.domain w.relay.number nothing_yet [] o
  link_at_first o held =
      All-contains (λ (it : Outlet). IsOutletOf t.domain w.relay.number nothing_yet [] it) w.relay.outlets.items o new.stands.outlets held

  -- or passed on
  none_reported : (o : Outlet) → Contains w.relay.outlets.items o → o.reported ≡ 0
  none_reported o held = let at = link_at_first o held in omega (arith, at.handed, at.as_far)

  -- so it is under way
  pub begins_under_way : IsUnderWay t number w
  begins_under_way = record {
    good_offers = new.good_offers;
    is_agenda = new.is_agenda;
    of_domain = new.stands.of_domain;
    number_is = new.number_is;
    few = few;
    tables = ([], new.no_tables);
    tables_taken = no_table_yet ∙ sym (ap (λ carried. length (items_in carried)) new.no_tables);
    early = omega (arith, no_table_yet);
    links_in = new.links_in;
    inlets = new.stands.into ∙ ap (links_into t.domain) new.number_is;
    ins = All-weaker IsUnused CarriesItems (λ port unused. ([], unused)) w.ins.items new.none_taken;
    links_out = new.links_out;
    outlets = new.stands.from ∙ ap (links_from t.domain) new.number_is;
    wires = all_from_members (λ (o : Outlet). o.wire.onward ≡ is_onward t.domain o.trace.link) w.relay.outlets.items (λ o held.
        ap (λ (wire : Wire). wire.onward) (link_at_first o held).wire);
    tidy = new.tidy;
    within = all_from_members (IsWithin w.relay.cycles) w.relay.outlets.items (λ o held. omega (arith, (link_at_first o held).as_far));
    outs = λ port o here there same. unused_port port o (All-contains IsUnused w.outs.items port new.none_put here) (none_reported o there);
    come = λ may. record {
      sends = λ l. [];
      stands = subst (λ (come : Come). StandsSo t.domain come (λ l. []) w.relay) (sym nothing_came) new.stands;
      handed = all_from_members (HasHandedOn t w (λ l. [])) w.relay.outlets.items (λ o held. record {
        each = λ cycle goes.
            let made : List ArrivedFrame = map (came_in t.domain o.trace.link cycle) (batch_at [] cycle) in
            ap (λ segments. filter (is_in cycle) (all_frames segments)) (none_at w.outs.items o.trace.link new.none_put)
            ∙ sym (cond-false (nat_lt cycle o.reported) made [] (le-ltb cycle o.reported (omega (arith, none_reported o held))));
      });
      drops = record {
        fresh = λ cycle. [];
        are = new.no_drops ∙ ap (each_below (λ cycle. [])) (sym no_table_yet);
        each = λ cycle early. absurd (omega (arith, early, no_table_yet));
        by_frame = λ cycle early. absurd (omega (arith, early, no_table_yet));
      };
    };
  }
    where
      -- through an unused port nothing was put
      unused_port : (port : SegmentPort) (o : Outlet) → port.pipe.items ≡ [] → o.reported ≡ 0 → HasPut o.reported port
      unused_port port o unused untold = record {
        items = ([], unused);
        next = subst (λ carried. AreNextSegments 0 (items_in carried)) (sym unused) tt;
        ends = ap (λ carried. end_of_segments 0 (items_in carried)) unused ∙ sym untold;
        few = omega (arith, ap length unused);
      }

-- a worker that may work is under way
pub some_begins : (cycles : ℕ) (w : Worker) → w.relay.cycles ≤ most_cycles → MayWork cycles w → SomeUnderWay w
some_begins cycles w few may = record { traffic = may.traffic; number = may.number; is = begins_under_way may.traffic may.number w few may.is }

-- ---- at the end

-- the first trace of a link has the link's marks, if each trace has the marks of its own link
marks_of_link : (marks : ℕ → List Mark) (outlets : List Outlet) (l : ℕ) → All (λ (o : Outlet). o.trace.starts.items ≡ marks o.trace.link) outlets →
    Contains (map link_out outlets) l → starts_at (map (λ (o : Outlet). o.trace) outlets) l ≡ marks l
marks_of_link marks [] l all held = absurd (contains_none l held)
marks_of_link marks (o ∷ outlets) l all held = elim (cases_eq o.trace.link l) [
  | inl same ↦
      cond-true (o.trace.link == l) o.trace.starts.items (starts_at (map (λ (it : Outlet). it.trace) outlets) l) (eq-eqb o.trace.link l same)
      ∙ All-head (λ (it : Outlet). it.trace.starts.items ≡ marks it.trace.link) o outlets all ∙ ap marks same
  | inr differ ↦
      cond-false (o.trace.link == l) o.trace.starts.items (starts_at (map (λ (it : Outlet). it.trace) outlets) l) (ne_eqb o.trace.link l differ)
      ∙ marks_of_link marks outlets l (All-tail (λ (it : Outlet). it.trace.starts.items ≡ marks it.trace.link) o outlets all)
      (elim (contains_cases o.trace.link (map link_out outlets) l held) [
        | inl same ↦ absurd (differ same)
        | inr rest ↦ rest
      ])
]

module _ (t : Offering) (number : ℕ) (w done : Worker) (under_way : IsUnderWay t number w) (over : IsOver w.relay) (keeps : KeepsBridgeTrace w done)
    (outs : done.outs.items ≡ w.outs.items) where
  -- it took each table
  all_tables : w.relay.tables ≡ w.relay.cycles
  all_tables = omega (arith, under_way.early, over.tables)

  -- each link has sent all cycles
  all_sent : (o : Outlet) → Contains w.relay.outlets.items o → o.sent ≡ w.relay.cycles
  all_sent o held =
      omega (
        arith,
        All-contains (IsWithin w.relay.cycles) w.relay.outlets.items o under_way.within held,
        All-contains (λ (it : Outlet). w.relay.cycles ≤ it.sent) w.relay.outlets.items o over.sent held,
      )

  -- and each link that ends in another bridge has passed them on
  all_reported : (o : Outlet) → Contains w.relay.outlets.items o → is_onward t.domain o.trace.link ≡ true → o.reported ≡ w.relay.cycles
  all_reported o held goes =
      let onward : o.wire.onward ≡ true =
      All-contains (λ (it : Outlet). it.wire.onward ≡ is_onward t.domain it.trace.link) w.relay.outlets.items o under_way.wires held ∙ goes in
      omega (
        arith,
        all_sent o held,
        (All-contains IsTidy w.relay.outlets.items o under_way.tidy held).handed,
        All-contains (λ (it : Outlet). it.wire.onward ≡ true → w.relay.cycles ≤ it.reported) w.relay.outlets.items o over.reported held onward,
      )

  -- the link of a number that leaves the bridge
  link_there : (l : ℕ) → leaves t.domain l number ≡ true → (o : Outlet) × Contains w.relay.outlets.items o × (link_out o ≡ l)
  link_there l own =
      contains_from_map link_out w.relay.outlets.items l
      (subst (λ (links : List ℕ). Contains links l) (sym under_way.outlets) (leaving_listed t.domain number l own))

  -- what has arrived is still the same
  came_still : come_to done ≡ come_to w
  came_still = come_same w done keeps.agenda (ap (λ end. end.items) keeps.tables) (ap (λ ports. ports.items) keeps.ins)

  -- what a link sent in each cycle was put at its port
  all_put : (sends : Sendings) (o : Outlet) → Contains w.relay.outlets.items o → (cycle : ℕ) → is_onward t.domain o.trace.link ≡ true →
      length (sends o.trace.link) ≡ w.relay.cycles → HasHandedOn t w sends o →
      filter (is_in cycle) (all_frames (segments_at done.outs.items o.trace.link)) ≡ map (came_in t.domain o.trace.link cycle) (batch_at (sends o.trace.link) cycle)
  all_put sends o held cycle goes long handed =
      let made : List ArrivedFrame = map (came_in t.domain o.trace.link cycle) (batch_at (sends o.trace.link) cycle) in
      let reported : o.reported ≡ w.relay.cycles = all_reported o held goes in
      let last : (if nat_lt cycle o.reported then made else []) ≡ made = elim (cases_lt cycle o.reported) [
        | inl early ↦ cond-true (nat_lt cycle o.reported) made [] (lt-ltb cycle o.reported early)
        | inr late ↦
            let none : made ≡ [] =
            ap (map (came_in t.domain o.trace.link cycle)) (get_or_past (sends o.trace.link) cycle [] (omega (arith, late, reported, long))) in
            cond-false (nat_lt cycle o.reported) made [] (le-ltb cycle o.reported late) ∙ sym none
      ] in
      ap (λ (ports : List SegmentPort). filter (is_in cycle) (all_frames (segments_at ports o.trace.link))) outs ∙ handed.each cycle goes ∙ last

  -- through each port that ends in the bridge came segments up to the last cycle
  all_came : (least : ℕ) → All (IsInletOf (come_to w) least) w.relay.inlets.items → (port : SegmentPort) → Contains w.ins.items port →
      w.relay.cycles ≤ end_of_segments 0 (segments_in port)
  all_came least inlets port held =
      let at = index_of_member w.ins.items port held in
      let p : IsPartner link_of link_in w.relay.inlets.items at.0 port =
      partner link_of link_in w.ins.items w.relay.inlets.items at.0 port (under_way.links_in ∙ sym under_way.inlets) at.1 in
      let upto : p.other.upto ≡ end_of_segments 0 (segments_in port) =
      (all_at (IsInletOf (come_to w) least) w.relay.inlets.items at.0 p.other inlets p.there).upto
      ∙ ap (λ (l : ℕ). end_of_segments 0 (segments_at w.ins.items l)) p.alike
      ∙ ap (end_of_segments 0)
      (segments_at_port w.ins.items port (ascend_by link_of w.ins.items (links_into t.domain number) under_way.links_in (into_ascends t.domain number)) held) in
      omega (arith, upto, all_at (λ (it : Inlet). w.relay.cycles ≤ it.upto) w.relay.inlets.items at.0 p.other over.come p.there)

  -- so its links have sent everything
  sent_all : MayHaveComeTo t done → HasSentAll t number w.relay.cycles done
  sent_all may =
      let so = under_way.come (may_same w done keeps.agenda (ap (λ end. end.items) keeps.tables) (ap (λ ports. ports.items) keeps.ins) t may) in
      let of : (o : Outlet) → Contains w.relay.outlets.items o → IsOutletOf t.domain w.relay.number (come_to w) (so.sends o.trace.link) o =
      λ o held. All-contains (λ (it : Outlet). IsOutletOf t.domain w.relay.number (come_to w) (so.sends it.trace.link) it) w.relay.outlets.items o
      so.stands.outlets held in
      record {
        sends = so.sends;
        gone = λ l own.
            let at = link_there l own in
            subst (λ (come : Come). HasGoneOnBy t.domain number come l (so.sends l)) (sym came_still)
            (subst (λ (n : ℕ). HasGoneOnBy t.domain n (come_to w) l (so.sends l)) under_way.number_is
            (subst (λ (m : ℕ). HasGoneOnBy t.domain w.relay.number (come_to w) m (so.sends m)) at.2 (of at.0 at.1).gone));
        all = λ l own.
            let at = link_there l own in
            subst (λ (m : ℕ). length (so.sends m) ≡ w.relay.cycles) at.2 (sym (of at.0 at.1).as_far ∙ all_sent at.0 at.1);
        put = λ l cycle own goes.
            let at = link_there l own in
            subst
            (λ (m : ℕ). filter (is_in cycle) (all_frames (segments_at done.outs.items m)) ≡ map (came_in t.domain m cycle) (batch_at (so.sends m) cycle))
            at.2
            (all_put so.sends at.0 at.1 cycle (ap (is_onward t.domain) at.2 ∙ goes) (sym (of at.0 at.1).as_far ∙ all_sent at.0 at.1)
            (All-contains (HasHandedOn t w so.sends) w.relay.outlets.items at.0 so.handed at.1));
        starts = λ l own.
            ap (λ (traces : List Trace). starts_at traces l) keeps.traces
            ∙ marks_of_link (λ m. map mark_of_sent (flat_map (λ (batch : List Sent). batch) (so.sends m))) w.relay.outlets.items l
            (all_from_members
            (λ (o : Outlet). o.trace.starts.items ≡ map mark_of_sent (flat_map (λ (batch : List Sent). batch) (so.sends o.trace.link))) w.relay.outlets.items
            (λ o held. (of o held).marked))
            (subst (λ (links : List ℕ). Contains links l) (sym under_way.outlets) (leaving_listed t.domain number l own));
        no_background = subst (All (λ (trace : Trace). trace.background.items ≡ [])) (sym keeps.traces)
            (All-map (λ (trace : Trace). trace.background.items ≡ []) (λ (o : Outlet). o.trace) w.relay.outlets.items
            (all_from_members (λ (o : Outlet). o.trace.background.items ≡ []) w.relay.outlets.items (λ o held. (of o held).no_background)));
        came = subst (λ ports. All (λ (port : SegmentPort). w.relay.cycles ≤ end_of_segments 0 (segments_in port)) ports.items) (sym keeps.ins)
            (all_from_members (λ (port : SegmentPort). w.relay.cycles ≤ end_of_segments 0 (segments_in port)) w.ins.items (λ port held.
            all_came so.stands.least so.stands.inlets port held));
        drops = subst (λ (come : Come). AreDropsOf t.domain number come w.relay.cycles done.bridge_trace.drops.items) (sym came_still)
            (subst (λ (n : ℕ). AreDropsOf t.domain number (come_to w) n done.bridge_trace.drops.items) all_tables
            (subst (λ list. AreDropsOf t.domain number (come_to w) w.relay.tables list.items) (sym keeps.drops) so.drops));
      }

  -- and it has gone through all cycles
  pub through_all : HasGoneThrough t number w.relay.cycles done
  through_all = record {
    is_agenda = subst (HasItsOffers t number) (sym keeps.agenda) under_way.is_agenda;
    tables = subst (λ end. AreItems end.items) (sym keeps.tables) under_way.tables;
    had_tables = ap (λ end. length (items_in end.items)) keeps.tables ∙ sym under_way.tables_taken ∙ all_tables;
    ins = subst (λ ports. All CarriesItems ports.items) (sym keeps.ins) under_way.ins;
    outs = subst (All (HasPut w.relay.cycles)) (sym outs) (all_from_members (HasPut w.relay.cycles) w.outs.items (λ port held.
        let from = outlet_of_port t number w port under_way held in
        subst (λ (n : ℕ). HasPut n port) (all_reported from.outlet from.there (ap (is_onward t.domain) (sym from.link) ∙ from.onward))
        (under_way.outs port from.outlet held from.there from.link)));
    links = ap links_of keeps.traces ∙ map-map link_of_trace (λ (o : Outlet). o.trace) w.relay.outlets.items ∙ under_way.outlets;
    sent = sent_all;
  }

-- a worker whose bridge is over ends with what it keeps
pub ends_so : (before w done : Worker) → SomeUnderWay before → GoesFurther before w → IsOver w.relay → KeepsBridgeTrace w done → done.outs ≡ w.outs →
    EndsSo before done
ends_so before w done some goes over keeps outs =
    let same : done.outs.items ≡ w.outs.items = ap (λ ports. ports.items) outs in
    let put : HasPutSegments w done = nothing_put w done (some_further before w some goes) same in
    record {
      tables = ap (λ end. end.pipe) keeps.tables ∙ goes.same.tables;
      ins = ap (λ ports. wires_of ports.items) keeps.ins ∙ goes.same.ins;
      outs = put.outs ∙ goes.same.outs;
      items = put.items;
      room = put.room;
      part = λ t number under_way.
          subst (λ (n : ℕ). HasGoneThrough t number n done) goes.same.cycles (through_all t number w done (goes.under_way t number under_way) over keeps same);
    }

-- so it does what a worker promises
pub ends_work : (w done : Worker) → w.relay.cycles ≤ most_cycles → EndsSo w done → Works w.relay.cycles w done
ends_work w done few ends = record {
  tables = ends.tables;
  ins = ends.ins;
  outs = ends.outs;
  part = λ t number new. ends.part t number (begins_under_way t number w few new);
}
