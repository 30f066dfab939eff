-- A bridge on its thread takes the table of one more cycle.
use Rattle.std.proofs.Common.{◌≡◌, ◌≢◌, ◌∙◌, ℕ, suc, ◌+◌, ◌*◌, ◌<◌, ◌≤◌, Bool, true, false, List, [], ◌∷◌, ◌++◌, All, AllPairs, Contains}
use Rattle.std.proofs.Common.{length, length-append, map, get_or, refl, sym, ap, subst, arith, inl, inr, add-one, append-nil, eq-eqb, ne_eqb}
use Rattle.std.specs.Prelude.{◌==◌, ◌&&◌, filter, if◌then◌else◌, slice_index_or}
use Rattle.std.specs.Arc.{arc_value}
use Rattle.std.specs.List.{list_any}
use Rattle.std.specs.List.Sorted.{IsNonDecreasingBy, IsPermutation}
use Rattle.std.proofs.Math.Seq.{get_or-append_seam}
use Rattle.std.proofs.lemmas.Bool.{cases_eq, cases_lt, cond-false, cond-true, eqb-true}
use Rattle.std.proofs.lemmas.List.{get_or_append_left, get_or_past, length-map, map-append}
use Rattle.cqf_lists.specs.Lists.{each_below}
use Rattle.cqf_lists.proofs.EachBelow.{contains_from_below, length-singles, same_below}
use Rattle.cqf_lists.proofs.Members.{all_from_members, contains_from_filter, contains_none}
use Rattle.cqf_lists.proofs.Pairs.{pairs_none}
use Rattle.cqf_model.specs.declared.frames.Dropped.{Dropped}
use Rattle.cqf_model.specs.declared.frames.Offered.{Offered}
use Rattle.cqf_model.specs.declared.topology.Row.{Row}
use Rattle.cqf_model.specs.Domain.{Domain, budget}
use Rattle.cqf_model.specs.Table.{AreOrderly, link_cost, table_of}
use Rattle.cqf_model.specs.Policing.{is_offered_at, numbered}
use Rattle.cqf_admission.specs.Tables.{CycleTable}
use Rattle.cqf_agenda.specs.Agenda.{AgendaOf, offers_listed_at}
use Rattle.cqf_relay.specs.Segments.{AreNextSegments}
use Rattle.cqf_relay.specs.Offering.{IsOfCycle, dropped_after}
use Rattle.cqf_relay.specs.Standing.{AreOfCycle, Come, MayBeTables, StandsSo, TakesTable, offers_in, with_table}
use Rattle.cqf_worker_loops.specs.declared.carried.Carried.{Carried}
use Rattle.cqf_worker_loops.specs.declared.carried.Carried.TheVariants.{Item}
use Rattle.cqf_worker_loops.specs.declared.worker.Worker.{Worker}
use Rattle.cqf_worker_loops.specs.declared.pipe_ends.FoundItem.{FoundItem}
use Rattle.cqf_worker_loops.specs.declared.pipe_ends.FoundItem.TheVariants as found_is
use Rattle.cqf_worker_loops.specs.PipeEnds.{End, items_found}
use Rattle.cqf_worker_loops.specs.Rows.{with_item, wires_of}
use Rattle.cqf_worker_loops.specs.Stepping.{EntersTable, GoesFurther, HasComeSoFar, HasTable, IsUnderWay, SomeUnderWay}
use Rattle.cqf_worker_loops.specs.Stops.{AreItems}
use Rattle.cqf_worker_loops.specs.Workers.{AreDropsOf, HasItsOffers, MayHaveComeTo, Offering, SegmentPort}
use Rattle.cqf_worker_loops.specs.Workers.{come_by, come_to, items_in, link_of, rows_in, segments_at}
use Rattle.cqf_worker_loops.proofs.Ports.{items_in_more}
use Rattle.cqf_worker_loops.proofs.Stopping.{CarriesItems, items_and_one}
use Rattle.cqf_worker_loops.proofs.UnderWay.{handed_still, takes_under_way}

-- ---- offers of a cycle

-- what is offered at a bridge in a cycle is of that cycle
pub offers_of_cycle : (t : Offering) (bridge cycle : ℕ) (agenda : AgendaOf) → HasItsOffers t bridge agenda →
    AreOfCycle t.domain cycle (offers_listed_at agenda cycle)
offers_of_cycle t bridge cycle agenda is =
    let d = t.domain in
    let offers = t.offers in
    let begin = cycle * d.cycle_time in
    let offered = each_below (λ offset. filter (is_offered_at bridge (begin + offset)) (numbered offers)) d.cycle_time in
    subst (AreOfCycle d cycle) (sym (is cycle)) (all_from_members (IsOfCycle d cycle) offered (λ x held.
    let at = contains_from_below (λ offset. filter (is_offered_at bridge (begin + offset)) (numbered offers)) d.cycle_time x held in
    let test = (contains_from_filter (is_offered_at bridge (begin + at.0)) (numbered offers) x at.2).1 in
    let instant : x.offer.at.0 ≡ begin + at.0 = eqb-true x.offer.at.0 (begin + at.0) (second (x.offer.bridge == bridge) (x.offer.at.0 == (begin + at.0)) test) in
    record { begun = omega (arith, instant); early = next_cycle cycle d.cycle_time at.0 x.offer.at.0 instant at.1 }))
  where
    -- the second of two tests that both pass
    second : (a b : Bool) → (a && b) ≡ true → b ≡ true
    second true b both = both
    second false b both = cc

    -- an instant within a cycle is before the next one
    next_cycle : (cycle time offset at : ℕ) → at ≡ cycle * time + offset → offset < time → at < (cycle + 1) * time
    next_cycle cycle time offset at is inside =
        let one_more : (cycle + 1) * time ≡ cycle * time + time = grind arith in
        omega (arith, is, inside, one_more)

-- ---- tables before the last

module _ (xs : List (List Row)) (last : List Row) where
  -- a table before the last is the same with and without the last
  early_table : (cycle : ℕ) → cycle < length xs → table_of (xs ++ last ∷ []) cycle ≡ table_of xs cycle
  early_table cycle inside = get_or_append_left xs (last ∷ []) [] cycle inside

  -- a row of such a table is of a cycle before the last, and also there with the last
  row_there : (cycle : ℕ) (row : Row) → Contains (table_of xs cycle) row → (cycle < length xs) × Contains (table_of (xs ++ last ∷ []) cycle) row
  row_there cycle row held = elim (cases_lt cycle (length xs)) [
    | inl inside ↦ (inside, subst (λ (rows : List Row). Contains rows row) (sym (early_table cycle inside)) held)
    | inr past ↦ absurd (contains_none row (subst (λ (rows : List Row). Contains rows row) (get_or_past xs cycle [] past) held))
  ]

  -- what holds of all tables, and of an empty one, holds of those before the last
  held_before : (P : List Row → Type 0) (cycle : ℕ) → P [] → P (table_of (xs ++ last ∷ []) cycle) → P (table_of xs cycle)
  held_before P cycle none held = elim (cases_lt cycle (length xs)) [
    | inl inside ↦ subst P (early_table cycle inside) held
    | inr past ↦ subst P (sym (get_or_past xs cycle [] past)) none
  ]

  -- if all tables may arrive, those before the last may
  pub tables_before : (d : Domain) → MayBeTables d (xs ++ last ∷ []) → MayBeTables d xs
  tables_before d may =
      let orderly : AreOrderly d xs = record {
        trees = λ cycle row held. may.orderly.trees cycle row (row_there cycle row held).1;
        numbers = λ cycle.
            held_before (AllPairs (λ (a b : Row). a.no ≢ b.no)) cycle (pairs_none (λ (a b : Row). a.no ≢ b.no)) (may.orderly.numbers cycle);
        names = λ cycle.
            held_before (AllPairs (λ (a b : Row). a.name ≢ b.name)) cycle (pairs_none (λ (a b : Row). a.name ≢ b.name)) (may.orderly.names cycle);
        one_stream = λ cycle later early late here there same.
            may.orderly.one_stream cycle later early late (row_there cycle early here).1 (row_there later late there).1 same;
        stays = λ cycle later row held live from upto inside.
            let s = may.orderly.stays cycle later row (row_there cycle row held).1 live from upto (omega (arith, inside, length-append xs (last ∷ []))) in
            (s.0, subst (λ (rows : List Row). Contains rows s.0) (early_table later inside) s.1, s.2);
        loads = λ cycle l active_cycle inside.
            held_before (λ (rows : List Row). link_cost rows l active_cycle ≤ budget d l) cycle (omega arith) (may.orderly.loads cycle l active_cycle inside);
        overheads = λ cycle row held. may.orderly.overheads cycle row (row_there cycle row held).1;
      } in
      record {
        orderly = orderly;
        by_number = λ cycle.
            held_before (AllPairs (λ (row other : Row). row.no < other.no)) cycle (pairs_none (λ (row other : Row). row.no < other.no)) (may.by_number cycle);
        following = λ cycle later row other less here there new.
            may.following cycle later row other less (row_there cycle row here).1 (row_there later other there).1 (λ before early.
            ap (list_any (λ (it : Row). it.no == other.no)) (early_table before (omega (arith, early, (row_there later other there).0))) ∙ new before early);
      }

-- ---- drops

-- the drops of one more cycle follow those before
pub drops_more : (d : Domain) (number : ℕ) (come : Come) (table : List Row) (offers : List Offered) (cycles : ℕ) (drops fresh : List Dropped) →
    length come.tables ≡ cycles → length come.offers ≡ cycles → AreDropsOf d number come cycles drops →
    IsPermutation (dropped_after d number cycles table [] offers) fresh → IsNonDecreasingBy (λ (x : Dropped). x.frame) fresh →
    AreDropsOf d number (with_table come table offers) (cycles + 1) (drops ++ fresh)
drops_more d number come table offers cycles drops fresh many long was own up =
    let all : ℕ → List Dropped = λ cycle. if cycle == cycles then fresh else was.fresh cycle in
    let at_own : all cycles ≡ fresh = cond-true (cycles == cycles) fresh (was.fresh cycles) (eq-eqb cycles cycles refl) in
    let before : (cycle : ℕ) → cycle < cycles → all cycle ≡ was.fresh cycle = λ cycle early.
    cond-false (cycle == cycles) fresh (was.fresh cycle) (ne_eqb cycle cycles (λ same. omega (arith, same, early))) in
    let own_there : fresh ≡ all cycles = sym at_own in
    let so : ℕ → List Row → List Offered → List Dropped → Type 0 = λ cycle rows xs made. IsPermutation (dropped_after d number cycle rows [] xs) made in
    let old : drops ≡ each_below all cycles = was.are ∙ sym (same_below all was.fresh cycles before) in
    record {
      fresh = all;
      are = (λ i. old i ++ own_there i) ∙ ap (each_below all) (sym (add-one cycles));
      each = λ cycle inside. elim (cases_eq cycle cycles) [
        | inl same ↦
            let rows : table_of (come.tables ++ table ∷ []) cycles ≡ table =
            ap (λ (k : ℕ). get_or (come.tables ++ table ∷ []) k []) (sym many) ∙ get_or-append_seam come.tables table [] [] in
            let xs : slice_index_or (come.offers ++ offers ∷ []) cycles [] ≡ offers =
            ap (λ (k : ℕ). get_or (come.offers ++ offers ∷ []) k []) (sym long) ∙ get_or-append_seam come.offers offers [] [] in
            let here : so cycles (table_of (come.tables ++ table ∷ []) cycles) (slice_index_or (come.offers ++ offers ∷ []) cycles []) (all cycles) =
            subst (λ (ts : List Row). so cycles ts (slice_index_or (come.offers ++ offers ∷ []) cycles []) (all cycles)) (sym rows)
            (subst (λ (os : List Offered). so cycles table os (all cycles)) (sym xs) (subst (so cycles table offers) own_there own)) in
            subst
            (λ (k : ℕ). so k (table_of (come.tables ++ table ∷ []) k) (slice_index_or (come.offers ++ offers ∷ []) k []) (all k))
            (sym same) here
        | inr differ ↦
            let early : cycle < cycles = omega (arith, inside, differ) in
            let rows : table_of (come.tables ++ table ∷ []) cycle ≡ table_of come.tables cycle =
            get_or_append_left come.tables (table ∷ []) [] cycle (omega (arith, early, many)) in
            let xs : slice_index_or (come.offers ++ offers ∷ []) cycle [] ≡ offers_in come cycle =
            get_or_append_left come.offers (offers ∷ []) [] cycle (omega (arith, early, long)) in
            subst (λ (ts : List Row). so cycle ts (slice_index_or (come.offers ++ offers ∷ []) cycle []) (all cycle)) (sym rows)
            (subst (λ (os : List Offered). so cycle (table_of come.tables cycle) os (all cycle)) (sym xs)
            (subst (so cycle (table_of come.tables cycle) (offers_in come cycle)) (sym (before cycle early)) (was.each cycle early)))
      ];
      by_frame = λ cycle inside. elim (cases_eq cycle cycles) [
        | inl same ↦ subst (IsNonDecreasingBy (λ (x : Dropped). x.frame)) (sym (ap all same ∙ at_own)) up
        | inr differ ↦
            subst (IsNonDecreasingBy (λ (x : Dropped). x.frame)) (sym (before cycle (omega (arith, inside, differ))))
            (was.by_frame cycle (omega (arith, inside, differ)))
      ];
    }

-- ---- the table

module _ (t : Offering) (number : ℕ) (table : CycleTable) (older after : Worker) (offers : List Offered)
    (takes : TakesTable table.rows offers older.relay after.relay) (listed : offers ≡ offers_listed_at older.agenda older.relay.tables)
    (agenda : after.agenda ≡ older.agenda) (tables : after.tables.items ≡ older.tables.items ++ Item table ∷ [])
    (ins : after.ins.items ≡ older.ins.items) (outs : after.outs.items ≡ older.outs.items) (under_way : IsUnderWay t number older) where
  -- one more table among the items
  one_table_more : items_in after.tables.items ≡ items_in older.tables.items ++ table ∷ []
  one_table_more = ap items_in tables ∙ items_in_more older.tables.items table

  -- as many offer lists as tables
  as_many_offers : length (come_to older).offers ≡ older.relay.tables
  as_many_offers =
      length-singles (λ cycle. offers_listed_at older.agenda cycle) (length (items_in older.tables.items)) ∙ sym under_way.tables_taken

  as_many_tables : length (come_to older).tables ≡ older.relay.tables
  as_many_tables = length-map (items_in older.tables.items) rows_in ∙ sym under_way.tables_taken

  -- what has arrived now is the former with the table and the cycle's offers
  come_with_table : come_to after ≡ with_table (come_to older) table.rows offers
  come_with_table =
      let now : come_to after ≡ come_by (items_in older.tables.items ++ table ∷ []) older.agenda older.ins.items =
      λ i. come_by (one_table_more i) (agenda i) (ins i) in
      let rows : map rows_in (items_in older.tables.items ++ table ∷ []) ≡ map rows_in (items_in older.tables.items) ++ table.rows ∷ [] =
      map-append rows_in (items_in older.tables.items) (table ∷ []) in
      let count : length (items_in older.tables.items ++ table ∷ []) ≡ suc (length (items_in older.tables.items)) =
      length-append (items_in older.tables.items) (table ∷ []) ∙ add-one (length (items_in older.tables.items)) in
      let last : offers_listed_at older.agenda (length (items_in older.tables.items)) ≡ offers =
      ap (offers_listed_at older.agenda) (sym under_way.tables_taken) ∙ sym listed in
      let each : each_below (λ cycle. offers_listed_at older.agenda cycle ∷ []) (length (items_in older.tables.items ++ table ∷ []))
      ≡ (come_to older).offers ++ offers ∷ [] =
      ap (each_below (λ cycle. offers_listed_at older.agenda cycle ∷ [])) count
      ∙ ap (λ (xs : List Offered). (come_to older).offers ++ xs ∷ []) last in
      now ∙ (λ i. record { tables = rows i; offers = each i; upto = (come_to older).upto; brought = (come_to older).brought })

  -- it was what may arrive before
  may_before_table : MayHaveComeTo t after → MayHaveComeTo t older
  may_before_table may = record {
    segments = subst (λ (ports : List SegmentPort). (l : ℕ) → AreNextSegments 0 (segments_at ports l)) ins may.segments;
    tables = tables_before (come_to older).tables table.rows t.domain
        (subst (λ (come : Come). MayBeTables t.domain come.tables) come_with_table may.tables);
  }

  -- so its bridge is in the state that follows from it
  stands_with_table : MayHaveComeTo t after → HasComeSoFar t number after
  stands_with_table may =
      let before = under_way.come (may_before_table may) in
      let can : MayBeTables t.domain ((come_to older).tables ++ table.rows ∷ []) =
      subst (λ (come : Come). MayBeTables t.domain come.tables) come_with_table may.tables in
      let fresh : IsPermutation (dropped_after t.domain number older.relay.tables table.rows [] offers) takes.fresh =
      subst (λ (n : ℕ). IsPermutation (dropped_after t.domain n older.relay.tables table.rows [] offers) takes.fresh) under_way.number_is
      (takes.are_drops t.domain (come_to older) before.sends before.stands can) in
      let drops : AreDropsOf t.domain number (with_table (come_to older) table.rows offers) (older.relay.tables + 1)
      (older.relay.edge.drops.items ++ takes.fresh) =
      drops_more t.domain number (come_to older) table.rows offers older.relay.tables older.relay.edge.drops.items takes.fresh as_many_tables
      as_many_offers before.drops fresh takes.by_frame in
      record {
        sends = before.sends;
        stands = subst (λ (come : Come). StandsSo t.domain come before.sends after.relay) (sym come_with_table)
            (takes.stands t.domain (come_to older) before.sends before.stands can);
        handed = handed_still t older after takes.same takes.reported_same outs before.sends before.sends (λ _ _ _ _. refl) before.handed;
        drops = subst (λ (come : Come). AreDropsOf t.domain number come after.relay.tables after.relay.edge.drops.items) (sym come_with_table)
            (subst (λ (n : ℕ). AreDropsOf t.domain number (with_table (come_to older) table.rows offers) n after.relay.edge.drops.items) (sym takes.taken)
            (subst (AreDropsOf t.domain number (with_table (come_to older) table.rows offers) (older.relay.tables + 1)) (sym takes.following) drops));
      }

  -- and it is under way with it
  pub table_under_way : older.relay.tables < older.relay.cycles → IsUnderWay t number after
  table_under_way early = takes_under_way t number older after
      (record {
        stays = takes.same;
        reported = takes.reported_same;
        outs = outs;
        agenda = agenda;
        links_in = ap (map link_of) ins;
        tables = λ items. subst AreItems (sym tables) (items_and_one older.tables.items table items);
        taken = λ taken.
            takes.taken ∙ ap (λ (n : ℕ). n + 1) taken ∙ sym (ap length one_table_more ∙ length-append (items_in older.tables.items) (table ∷ []));
        early = omega (arith, takes.taken, early);
        ins = subst (All CarriesItems) (sym ins);
      }) under_way stands_with_table

-- a worker that has taken its table goes on if its bridge takes it
pub entered : (t : Offering) (number : ℕ) (table : CycleTable) (older before after : Worker) (offers : List Offered) → IsUnderWay t number older →
    older.relay.tables < older.relay.cycles → before ≡ record older { tables = with_item older.tables (Item table) } →
    TakesTable table.rows offers before.relay after.relay → offers ≡ offers_listed_at before.agenda before.relay.tables →
    after.agenda ≡ before.agenda → after.tables ≡ before.tables → after.ins ≡ before.ins → after.outs ≡ before.outs → IsUnderWay t number after
entered t number table older before after offers under_way early was takes listed agenda tables ins outs =
    table_under_way t number table older after offers
    (subst (λ (w : Worker). TakesTable table.rows offers w.relay after.relay) was takes)
    (subst (λ (w : Worker). offers ≡ offers_listed_at w.agenda w.relay.tables) was listed)
    (agenda ∙ ap (λ (w : Worker). w.agenda) was)
    (ap (λ end. end.items) (tables ∙ ap (λ (w : Worker). w.tables) was))
    (ap (λ ports. ports.items) (ins ∙ ap (λ (w : Worker). w.ins) was))
    (ap (λ ports. ports.items) (outs ∙ ap (λ (w : Worker). w.outs) was))
    under_way early

-- the offers that are listed for the cycle are of that cycle
pub offers_entered : (w : Worker) (table : CycleTable) (offers : List Offered) (cycle : ℕ) → HasTable table w → cycle ≡ w.relay.tables →
    offers ≡ offers_listed_at w.agenda cycle → AreOfCycle (arc_value w.relay.domain) w.relay.tables offers
offers_entered w table offers cycle has at listed =
    let t = has.was.traffic in
    let of_cycle : AreOfCycle t.domain has.before.relay.tables (offers_listed_at has.before.agenda has.before.relay.tables) =
    offers_of_cycle t has.was.number has.before.relay.tables has.before.agenda has.was.is.is_agenda in
    let old : AreOfCycle (arc_value has.before.relay.domain) has.before.relay.tables (offers_listed_at has.before.agenda has.before.relay.tables) =
    subst (λ (d : Domain). AreOfCycle d has.before.relay.tables (offers_listed_at has.before.agenda has.before.relay.tables))
    (sym has.was.is.of_domain) of_cycle in
    let now : AreOfCycle (arc_value w.relay.domain) w.relay.tables (offers_listed_at w.agenda w.relay.tables) =
    subst (λ (it : Worker). AreOfCycle (arc_value it.relay.domain) it.relay.tables (offers_listed_at it.agenda it.relay.tables)) (sym has.is) old in
    subst (AreOfCycle (arc_value w.relay.domain) w.relay.tables) (sym (listed ∙ ap (offers_listed_at w.agenda) at)) now

-- a worker whose bridge takes the table of its next cycle has entered it
pub enters_table : (table : CycleTable) (before after : Worker) (offers : List Offered) → TakesTable table.rows offers before.relay after.relay →
    offers ≡ offers_listed_at before.agenda before.relay.tables → after.agenda ≡ before.agenda → after.tables ≡ before.tables →
    after.ins ≡ before.ins → after.outs ≡ before.outs → EntersTable table before after
enters_table table before after offers takes listed agenda tables ins outs = record {
  same = record {
    number = takes.same.number;
    cycles = takes.same.cycles;
    agenda = agenda;
    tables = ap (λ end. end.pipe) tables;
    ins = ap (λ ports. wires_of ports.items) ins;
    outs = ap (λ ports. wires_of ports.items) outs;
  };
  tables = tables;
  taken = takes.taken;
  under_way = λ t number older under_way early was.
      entered t number table older before after offers under_way early was takes listed agenda tables ins outs;
}

-- ---- what a look at a pipe finds

module _ {T : Type 0} (old new : End T) (found : FoundItem T) (pipe : new.pipe ≡ old.pipe) (items : new.items ≡ old.items ++ items_found found) where
  -- one more item was taken there
  pub found_item : (x : T) → found ≡ found_is.Item x → new ≡ with_item old x
  found_item x is =
      let more : new.items ≡ old.items ++ x ∷ [] = items ∙ ap (λ (f : FoundItem T). old.items ++ items_found f) is in
      λ i. record { pipe = pipe i; items = more i }

  -- or none
  pub found_nothing : found ≡ found_is.Nothing → new ≡ old
  found_nothing is =
      let same : new.items ≡ old.items = items ∙ ap (λ (f : FoundItem T). old.items ++ items_found f) is ∙ append-nil old.items in
      λ i. record { pipe = pipe i; items = same i }

-- a worker that has taken a table from the pipe
pub has_table : (table : CycleTable) (before : Worker) (new : End (Carried CycleTable)) → SomeUnderWay before →
    before.relay.tables < before.relay.cycles → new ≡ with_item before.tables (Item table) → HasTable table (record before { tables = new })
has_table table before new some wants is = record { before = before; was = some; wants = wants; is = λ i. record before { tables = is i } }

-- goes on if its bridge takes it
pub goes_with_table : (table : CycleTable) (before after : Worker) (new : End (Carried CycleTable)) → before.relay.tables < before.relay.cycles →
    new ≡ with_item before.tables (Item table) → EntersTable table (record before { tables = new }) after → GoesFurther before after
goes_with_table table before after new wants is enters = record {
  same = record {
    number = enters.same.number;
    cycles = enters.same.cycles;
    agenda = enters.same.agenda;
    tables = enters.same.tables ∙ ap (λ end. end.pipe) is;
    ins = enters.same.ins;
    outs = enters.same.outs;
  };
  under_way = λ t number under_way. enters.under_way t number before under_way wants (λ i. record before { tables = is i });
}

-- and one that has found none is unchanged
pub goes_without_table : (first before : Worker) (new : End (Carried CycleTable)) → GoesFurther first before → new ≡ before.tables →
    GoesFurther first (record before { tables = new })
goes_without_table first before new goes is = subst (λ end. GoesFurther first (record before { tables = end })) (sym is) goes
