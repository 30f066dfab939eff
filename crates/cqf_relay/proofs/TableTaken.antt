-- The state of a bridge with one more table.
use Rattle.std.proofs.Common.{ℕ, ◌≡◌, ◌∙◌, ◌+◌, ◌-◌, ◌<◌, ◌≤◌, ◌⊎◌, List, [], ◌∷◌, ◌++◌, length, length-append, nat_le}
use Rattle.std.proofs.Common.{refl, sym, ap, subst, inl, inr, arith, Some, map, get_or, append-nil}
use Rattle.std.specs.Prelude.{All, Contains, filter, slice_get}
use Rattle.std.specs.Arc.{arc_value}
use Rattle.std.specs.List.Sorted.{IsPermutation}
use Rattle.std.proofs.lemmas.Bool.{cases_lt, cases_order, eq-eqb, le-leb, ne_eqb}
use Rattle.std.proofs.lemmas.List.{get_or-append_right, get_or-map, get_or_append_left, get_or_at, get_or_past, length-map, length_push, same_lists}
use Rattle.std.proofs.lemmas.List.Elements.{All-contains, All-weaker, Contains-append_cases, Contains-append_left, Contains-append_right, Contains-get_or, filter-append}
use Rattle.std.proofs.lemmas.Option.{slice_get-get_or, slice_get_cases}
use Rattle.cqf_lists.specs.Lists.{each_below}
use Rattle.cqf_lists.proofs.EachBelow.{filter_each, filter_none}
use Rattle.cqf_lists.proofs.Members.{all_from_members, contains_at, contains_cases, contains_filter, contains_from_filter, contains_from_map, contains_here, contains_later, contains_none, index_of_member}
use Rattle.cqf_model.specs.declared.frames.Offered.{Offered}
use Rattle.cqf_model.specs.declared.frames.Sent.{Sent}
use Rattle.cqf_model.specs.declared.topology.Row.{Row}
use Rattle.cqf_model.specs.Domain.{Domain}
use Rattle.cqf_model.specs.Table.{table_of}
use Rattle.cqf_relay.specs.declared.edge.Edge.{Edge}
use Rattle.cqf_relay.specs.declared.leads.By.TheVariants as ingress
use Rattle.cqf_relay.specs.declared.log.ArrivedFrame.{ArrivedFrame}
use Rattle.cqf_relay.specs.declared.outlet.Outlet.{Outlet}
use Rattle.cqf_relay.specs.declared.pending.Pending.{Pending}
use Rattle.cqf_relay.specs.declared.queue.Queued.{Queued}
use Rattle.cqf_relay.specs.declared.relay.Relay.{Relay}
use Rattle.cqf_relay.specs.Segments.{Sendings, batch_at, moving_between}
use Rattle.cqf_relay.specs.Leading.{leads}
use Rattle.cqf_relay.specs.Logs.{cycle_of_came, is_in}
use Rattle.cqf_relay.specs.Offering.{CountsUpto, Going, TakesOffers, came_of_going, covered_after, dropped_after}
use Rattle.cqf_relay.specs.Sending.{IsTidy, LearnsOf}
use Rattle.cqf_relay.specs.Standing.{AreKnown, Come, GoesOnBy, HasGoneOnBy, IsEdgeOf, IsInletOf, IsOutletOf, IsWithin, KnowsRows, LearnEach, LearnsRows, MayBeTables}
use Rattle.cqf_agenda.specs.Links.{links_from, links_into}
use Rattle.cqf_relay.specs.Standing.{MayHaveCome, StandsSo, TakesTable, all_rows, comes_by, covered_in, known_after, link_in, link_out}
use Rattle.cqf_relay.specs.Standing.{new_rows, that_go_on, wire_on, wire_out, with_table}
use Rattle.cqf_relay.proofs.Learning.{ComeAfter, HasLearned, each_learned, later_after, room_learned}
use Rattle.cqf_relay.proofs.NewRows.{all_rows_more, knows_with, new_after, rows_before, table_before, table_last}
use Rattle.cqf_relay.proofs.Tidy.{same_tidy}

-- the covered offers of the earlier cycles are unchanged
covered_before : (d : Domain) (bridge cycle : ℕ) (come : Come) (table : List Row) (offers : List Offered) → cycle < length come.tables →
    length come.offers ≡ length come.tables → covered_in d bridge (with_table come table offers) cycle ≡ covered_in d bridge come cycle
covered_before d bridge cycle come table offers early long =
    let there : cycle < length come.offers = omega (arith, early, long) in
    λ i. covered_after d bridge cycle (table_before come.tables table cycle early i) [] (get_or_append_left come.offers (offers ∷ []) [] cycle there i)

-- those of the next one are the new ones
covered_last : (d : Domain) (bridge : ℕ) (come : Come) (table : List Row) (offers : List Offered) → length come.offers ≡ length come.tables →
    covered_in d bridge (with_table come table offers) (length come.tables) ≡ covered_after d bridge (length come.tables) table [] offers
covered_last d bridge come table offers long =
    λ i. covered_after d bridge (length come.tables) (table_last come.tables table i) [] (get_or_at come.offers offers [] [] (length come.tables) long i)

-- and after all there are none
covered_none : (d : Domain) (bridge cycle : ℕ) (come : Come) → length come.offers ≤ cycle → covered_in d bridge come cycle ≡ []
covered_none d bridge cycle come late =
    ap (covered_after d bridge cycle (table_of come.tables cycle) []) (get_or_past come.offers cycle [] late)

-- frames that go on in a cycle are of it
of_the_cycle : (d : Domain) (cycle : ℕ) (goings : List Going) (came : ArrivedFrame) → Contains (map (came_of_going d cycle) goings) came → came.cycle ≡ cycle
of_the_cycle d cycle goings came there =
    let from = contains_from_map (came_of_going d cycle) goings came there in sym (ap (λ (it : ArrivedFrame). it.cycle) from.2)

-- so they are all frames of the cycle
all_of_cycle : (d : Domain) (cycle : ℕ) (goings : List Going) →
    filter (is_in cycle) (map (came_of_going d cycle) goings) ≡ map (came_of_going d cycle) goings
all_of_cycle d cycle goings =
    filter_each (is_in cycle) (map (came_of_going d cycle) goings) (λ came there. eq-eqb came.cycle cycle (of_the_cycle d cycle goings came there))

-- and none of another
none_of_other : (d : Domain) (cycle other : ℕ) (goings : List Going) → (cycle ≡ other → ⊥) →
    filter (is_in other) (map (came_of_going d cycle) goings) ≡ []
none_of_other d cycle other goings apart =
    filter_none (is_in other) (map (came_of_going d cycle) goings) (λ came there.
    ne_eqb came.cycle other (λ same. apart (sym (of_the_cycle d cycle goings came there) ∙ same)))

-- frames of the next cycle may arrive after those that have
come_more : (cycle later : ℕ) (xs ys : List ArrivedFrame) → cycle < later → MayHaveCome cycle xs → ((came : ArrivedFrame) → Contains ys came → came.cycle ≡ cycle) →
    MayHaveCome later (xs ++ ys)
come_more cycle later xs ys early held next = record {
  by_cycle = λ i j d before within. elim (cases_lt j (length xs)) [
    | inl front ↦
        let first : i < length xs = omega (arith, before, front) in
        let one = get_or_append_left xs ys d i first in
        let other = get_or_append_left xs ys d j front in
        let up : (get_or xs i d).cycle ≤ (get_or xs j d).cycle = held.by_cycle i j d before front in
        let least : (get_or (xs ++ ys) i d).cycle ≡ (get_or xs i d).cycle = ap cycle_of_came one in
        let most : (get_or (xs ++ ys) j d).cycle ≡ (get_or xs j d).cycle = ap cycle_of_came other in
        omega (arith, least, most, up)
    | inr following ↦
        let short : j - length xs < length ys = omega (arith, within, following, length-append xs ys) in
        let is = get_or-append_right xs ys (length xs) j d refl following in
        let last : (get_or (xs ++ ys) j d).cycle ≡ cycle =
        ap cycle_of_came is ∙ next (get_or ys (j - length xs) d) (Contains-get_or ys (j - length xs) d short) in
        let least : (get_or (xs ++ ys) i d).cycle ≤ cycle =
        up_to (get_or (xs ++ ys) i d) (Contains-get_or (xs ++ ys) i d (omega (arith, before, within))) in
        omega (arith, last, least)
  ];
  within = all_from_members (λ (came : ArrivedFrame). came.cycle < later) (xs ++ ys) (λ came there.
      let most : came.cycle ≤ cycle = up_to came there in
      omega (arith, most, early));
}
  where
    -- none is of a later cycle
    up_to : (came : ArrivedFrame) → Contains (xs ++ ys) came → came.cycle ≤ cycle
    up_to came there = elim (Contains-append_cases xs ys came there) [
      | inl first ↦ let before : came.cycle < cycle = All-contains (λ (it : ArrivedFrame). it.cycle < cycle) xs came held.within first in omega (arith, before)
      | inr last ↦ let same : came.cycle ≡ cycle = next came last in omega (arith, same)
    ]

-- the edge with the offers of the next cycle
edge_with : (d : Domain) (bridge least : ℕ) (come : Come) (table : List Row) (offers : List Offered) (before after : Edge) →
    length come.offers ≡ length come.tables → IsEdgeOf d bridge come least before →
    TakesOffers d (length come.tables) table offers before after → IsEdgeOf d bridge (with_table come table offers) least after
edge_with d bridge least come table offers before after long stood takes =
    let frames : after.log.frames.items ≡ before.log.frames.items ++ fresh =
    takes.kept stood.counted
    ∙ ap (λ (number : ℕ). before.log.frames.items ++ map (came_of_going d cycle) (covered_after d number cycle table [] offers)) stood.number in
    let more : length (come.tables ++ table ∷ []) ≡ cycle + 1 = length_push come.tables table in
    record {
      number = takes.number ∙ stood.number;
      held = subst (MayHaveCome (length (come.tables ++ table ∷ []))) (sym frames)
          (come_more cycle (length (come.tables ++ table ∷ [])) before.log.frames.items fresh (omega (arith, more)) stood.held
          (of_the_cycle d cycle goings));
      holds = λ at from. ap (filter (is_in at)) frames ∙ filter-append (is_in at) before.log.frames.items fresh ∙ holds at from;
      counted = subst (λ (next : ℕ). CountsUpto next after.used.items) (sym more) (takes.later stood.counted);
    }
  where
    -- the next cycle
    cycle : ℕ
    cycle = length come.tables

    -- what is covered in it
    goings : List Going
    goings = covered_after d bridge cycle table [] offers

    -- and arrives in it
    fresh : List ArrivedFrame
    fresh = map (came_of_going d cycle) goings

    -- there were none of the next cycle and later ones
    none_yet : (at : ℕ) → least ≤ at → cycle ≤ at → filter (is_in at) before.log.frames.items ≡ []
    none_yet at from late =
        stood.holds at from ∙ ap (map (came_of_going d at)) (covered_none d bridge at come (omega (arith, long, late)))

    -- by cycle
    holds : (at : ℕ) → least ≤ at → filter (is_in at) before.log.frames.items ++ filter (is_in at) fresh
        ≡ map (came_of_going d at) (covered_in d bridge (with_table come table offers) at)
    holds at from = elim (cases_order at cycle) [
      | inl same ↦
          subst (λ (n : ℕ). filter (is_in n) before.log.frames.items ++ filter (is_in n) fresh
          ≡ map (came_of_going d n) (covered_in d bridge (with_table come table offers) n)) (sym same)
          ((λ i. none_yet cycle (omega (arith, from, same)) (omega arith) i ++ all_of_cycle d cycle goings i)
          ∙ ap (map (came_of_going d cycle)) (sym (covered_last d bridge come table offers long)))
      | inr other ↦ elim other [
        | inl early ↦
            (λ i. stood.holds at from i ++ none_of_other d cycle at goings (λ same. omega (arith, same, early)) i)
            ∙ append-nil (map (came_of_going d at) (covered_in d bridge come at))
            ∙ ap (map (came_of_going d at)) (sym (covered_before d bridge at come table offers early long))
        | inr late ↦
            let more : length (come.offers ++ offers ∷ []) ≡ length come.offers + 1 = length_push come.offers offers in
            (λ i. none_yet at from (omega (arith, late)) i ++ none_of_other d cycle at goings (λ same. omega (arith, same, late)) i)
            ∙ ap (map (came_of_going d at)) (sym (covered_none d bridge at (with_table come table offers) (omega (arith, more, late, long))))
      ]
    ]

-- what a link has sent depends on what arrived before
gone_with : (d : Domain) (bridge l : ℕ) (come : Come) (table : List Row) (offers : List Offered) (sends : List (List Sent)) →
    length come.offers ≡ length come.tables → HasGoneOnBy d bridge come l sends → HasGoneOnBy d bridge (with_table come table offers) l sends
gone_with d bridge l come table offers sends long gone =
    record { first = gone.first; next = λ cycle early. goes_with cycle (batch_at sends (cycle + 1)) (gone.next cycle early) }
  where
    -- each step by what arrived before
    goes_with : (cycle : ℕ) (sent : List Sent) → GoesOnBy d bridge come l cycle sent → GoesOnBy d bridge (with_table come table offers) l cycle sent
    goes_with cycle sent goes =
        let rows = rows_before come.tables table goes.count goes.within in
        let early : cycle < length come.tables = omega (arith, goes.had_table, goes.within) in
        let covered = covered_before d bridge cycle come table offers early long in
        let queue : List Row → List Going → List Queued = λ (known : List Row) (goings : List Going).
        each_below (comes_by d bridge come known l cycle) (length d.links)
        ++ that_go_on known l ingress.Edge 4096 (map (came_of_going d cycle) goings) in
        record {
          count = goes.count;
          had_table = goes.had_table;
          within = omega (arith, goes.within, length_push come.tables table);
          had = λ m ends led. goes.had m ends (sym (ap (λ (known : List Row). leads known m l) rows) ∙ led);
          sorted = goes.sorted;
          is_queue = subst (λ (queue : List Queued). IsPermutation queue goes.sorted) (λ i. queue (sym rows i) (sym covered i)) goes.is_queue;
          in_order = goes.in_order;
          sends = goes.sends;
        }

-- how many rows are known if more follow by number
known_up : (known : ℕ) (rows : List Row) → ComeAfter known rows → known ≤ known_after known rows
known_up known [] come = omega arith
known_up known (row ∷ rows) come =
    let up : row.no + 1 ≤ known_after (row.no + 1) rows = known_up (row.no + 1) rows (later_after known row rows come) in
    let following : known ≤ row.no = come.following row (contains_here row rows) in
    omega (arith, up, following)

-- each of them has a lower number
known_above : (known : ℕ) (rows : List Row) → ComeAfter known rows → (row : Row) → Contains rows row → row.no < known_after known rows
known_above known [] come row there = absurd (contains_none row there)
known_above known (first ∷ rows) come row there =
    let later = later_after known first rows come in
    elim (contains_cases first rows row there) [
      | inl same ↦
          let up : first.no + 1 ≤ known_after (first.no + 1) rows = known_up (first.no + 1) rows later in
          let is : first.no ≡ row.no = ap (λ (it : Row). it.no) same in
          omega (arith, up, is)
      | inr rest ↦ known_above (first.no + 1) rows later row rest
    ]

-- and the last of them has the number before
known_last : (known : ℕ) (rows : List Row) →
    (known_after known rows ≡ known) ⊎ ((row : Row) × Contains rows row × (row.no + 1 ≡ known_after known rows))
known_last known [] = inl refl
known_last known (first ∷ rows) = elim (known_last (first.no + 1) rows) [
  | inl none ↦ inr (first, contains_here first rows, sym none)
  | inr some ↦ inr (some.0, contains_later first rows some.0 some.1, some.2)
]

-- links that are replaced one by one by similar ones are as many, and similar
links_alike : {X Y : Type 0} (f : X → Y) (xs ys : List X) → length ys ≡ length xs →
    ((k : ℕ) (x y : X) → slice_get xs k ≡ Some x → slice_get ys k ≡ Some y → f y ≡ f x) → map f ys ≡ map f xs
links_alike f xs ys long each =
    same_lists (map f ys) (map f xs) (length-map ys f ∙ long ∙ sym (length-map xs f)) (λ k d within. elim ((slice_get_cases ys k).1) [
      | inl there ↦
          let short : k < length xs = omega (arith, there.1, long) in
          let was = slice_get-get_or xs k there.0 short in
          get_or-map f ys k there.0 d there.1 ∙ ap f there.3 ∙ each k (get_or xs k there.0) there.0 was there.2
          ∙ sym (get_or-map f xs k there.0 d short)
      | inr past ↦ absurd (omega (arith, within, past.0, length-map ys f))
    ])

-- what each link keeps when it learns a row, all keep when they learn rows
kept_learning : {X : Type 0} (f : Outlet → X) → ((row : Row) (outlet learned : Outlet) → LearnsOf row outlet learned → f learned ≡ f outlet) →
    (rows : List Row) (before after : List Outlet) → LearnEach rows before after → map f after ≡ map f before
kept_learning f kept [] before after learn = ap (map f) learn
kept_learning f kept (row ∷ rows) before after learn =
    kept_learning f kept rows learn.0 after learn.2
    ∙ links_alike f before learn.0 learn.1.count (λ k outlet learned was is. kept row outlet learned (learn.1.each k outlet learned was is))

-- the links stay when they learn
links_learned : (rows : List Row) (before after : List Outlet) → LearnEach rows before after → map link_out after ≡ map link_out before
links_learned rows before after learn =
    kept_learning link_out (λ row outlet learned learns. ap (λ trace. trace.link) learns.trace) rows before after learn

-- and so do their wires
wires_learned : (rows : List Row) (before after : List Outlet) → LearnEach rows before after → map wire_out after ≡ map wire_out before
wires_learned rows before after learn = kept_learning wire_out (λ row outlet learned learns. learns.wire) rows before after learn

-- and the cycles up to which they have handed on
reported_learned : (rows : List Row) (before after : List Outlet) → LearnEach rows before after →
    map (λ (outlet : Outlet). outlet.reported) after ≡ map (λ (outlet : Outlet). outlet.reported) before
reported_learned rows before after learn =
    kept_learning (λ (outlet : Outlet). outlet.reported) (λ row outlet learned learns. learns.reported) rows before after learn

-- a link before it learned rows
record WasOne (rows : List Row) (before : List Outlet) (learned : Outlet) : Type 0 where
  outlet : Outlet
  there : Contains before outlet
  has : HasLearned rows outlet learned

-- each was such a link
was_one : (rows : List Row) (before after : List Outlet) → LearnEach rows before after → (learned : Outlet) → Contains after learned →
    WasOne rows before learned
was_one rows before after learn learned there =
    let at = index_of_member after learned there in
    let was = each_learned rows before after learn at.0 learned at.1 in
    record { outlet = was.outlet; there = contains_at before at.0 was.outlet was.was; has = was.has }

-- tidy links stay tidy when they learn
tidy_learned : (rows : List Row) (before after : List Outlet) → LearnEach rows before after → All IsTidy before → All IsTidy after
tidy_learned rows before after learn tidy = all_from_members IsTidy after (λ outlet there.
    let was = was_one rows before after learn outlet there in
    same_tidy was.outlet outlet was.has.reported was.has.sent (ap (λ (pending : Pending). pending.base) was.has.pending)
    (ap (λ (pending : Pending). pending.frames.items) was.has.pending) (All-contains IsTidy before was.outlet tidy was.there))

-- and none has sent more when it has learned
within_learned : (cycles : ℕ) (rows : List Row) (before after : List Outlet) → LearnEach rows before after → All (IsWithin cycles) before →
    All (IsWithin cycles) after
within_learned cycles rows before after learn within = all_from_members (IsWithin cycles) after (λ outlet there.
    let was = was_one rows before after learn outlet there in
    omega (arith, was.has.sent, All-contains (IsWithin cycles) before was.outlet within was.there))

module _ (d : Domain) (bridge : ℕ) (come : Come) (table : List Row) (offers : List Offered) (known : ℕ)
    (may : MayBeTables d (come.tables ++ table ∷ [])) (long : length come.offers ≡ length come.tables)
    (below : (row : Row) → Contains (all_rows come.tables) row → row.no < known)
    (last : (known ≡ 0) ⊎ ((row : Row) × Contains (all_rows come.tables) row × (row.no + 1 ≡ known))) where
  -- the new rows follow the known ones by number
  following : ComeAfter known (new_rows known table)
  following = new_after d come.tables table known may below last

  -- a link with the table's rows
  outlet_with : (sends : List (List Sent)) (before after : Outlet) → IsOutletOf d bridge come sends before →
      length before.leads.rows.items ≤ known → HasLearned (new_rows known table) before after →
      IsOutletOf d bridge (with_table come table offers) sends after
  outlet_with sends before after stood room has =
      let link : after.trace.link ≡ before.trace.link = ap (λ trace. trace.link) has.trace in
      let onward : after.wire.onward ≡ before.wire.onward = ap (λ wire. wire.onward) has.wire in
      let base : after.pending.base ≡ before.pending.base = ap (λ (pending : Pending). pending.base) has.pending in
      record {
        wire = has.wire ∙ stood.wire ∙ ap (wire_on d) (sym link);
        knows = subst (λ (l : ℕ). KnowsRows l (come.tables ++ table ∷ []) after.leads) (sym link)
            (knows_with d come.tables table known may below last before.trace.link before.leads after.leads stood.knows room has.leads);
        as_far = has.sent ∙ stood.as_far;
        handed = omega (arith, has.sent, has.reported, stood.handed);
        pends = λ is.
            ap (λ (pending : Pending). pending.frames.items) has.pending ∙ stood.pends (sym onward ∙ is)
            ∙ (λ i. moving_between d (sym link i) sends (sym base i) (sym has.reported i) (sym has.sent i));
        counts = λ is cycle begun early some.
            let was = stood.counts (sym onward ∙ is) cycle (omega (arith, has.reported, begun)) (omega (arith, has.sent, early)) some in
            (omega (arith, base, was.0), omega (arith, base, was.1));
        marked = ap (λ trace. trace.starts.items) has.trace ∙ stood.marked;
        no_background = ap (λ trace. trace.background.items) has.trace ∙ stood.no_background;
        gone = subst (λ (l : ℕ). HasGoneOnBy d bridge (with_table come table offers) l sends) (sym link)
            (gone_with d bridge before.trace.link come table offers sends long stood.gone);
      }

  -- a row of all tables with the next one is of the earlier ones, or of the next one
  of_either : (row : Row) → Contains (all_rows (come.tables ++ table ∷ [])) row → Contains (all_rows come.tables) row ⊎ Contains table row
  of_either row there = Contains-append_cases (all_rows come.tables) table row
      (subst (λ (rows : List Row). Contains rows row) (all_rows_more come.tables table) there)

  -- and conversely
  of_all : (row : Row) → Contains (all_rows come.tables ++ table) row → Contains (all_rows (come.tables ++ table ∷ [])) row
  of_all row there = subst (λ (rows : List Row). Contains rows row) (sym (all_rows_more come.tables table)) there

  -- how many rows are known with it
  known_with : (before after : List Outlet) → AreKnown come.tables known before → LearnEach (new_rows known table) before after →
      AreKnown (come.tables ++ table ∷ []) (known_after known (new_rows known table)) after
  known_with before after stood learn = record {
    below = λ row there. elim (of_either row there) [
      | inl first ↦ old row (below row first)
      | inr new ↦ elim (cases_lt row.no known) [
        | inl low ↦ old row low
        | inr high ↦
            known_above known (new_rows known table) following row (contains_filter (λ (it : Row). nat_le known it.no) table row new (le-leb known row.no high))
      ]
    ];
    last = elim (known_last known (new_rows known table)) [
      | inr some ↦
          let there = (contains_from_filter (λ (it : Row). nat_le known it.no) table some.0 some.1).0 in
          inr (some.0, of_all some.0 (Contains-append_right (all_rows come.tables) table some.0 there), some.2)
      | inl none ↦ elim last [
        | inl zero_known ↦ inl (none ∙ zero_known)
        | inr some ↦ inr (some.0, of_all some.0 (Contains-append_left (all_rows come.tables) table some.0 some.1), some.2 ∙ sym none)
      ]
    ];
    room = all_from_members (λ (outlet : Outlet). length outlet.leads.rows.items ≤ known_after known (new_rows known table)) after (λ outlet there.
        let was = was_one (new_rows known table) before after learn outlet there in
        room_learned was.outlet.trace.link known (new_rows known table) was.outlet.leads outlet.leads was.has.leads following
        (All-contains (λ (it : Outlet). length it.leads.rows.items ≤ known) before was.outlet stood.room was.there));
  }
    where
      -- an earlier row's number is lower still
      old : (row : Row) → row.no < known → row.no < known_after known (new_rows known table)
      old row low =
          let up : known ≤ known_after known (new_rows known table) = known_up known (new_rows known table) following in
          omega (arith, low, up)

-- a bridge that has learned rows, with the edge after its offers
abbrev pub with_edge : Relay → Edge → Relay
with_edge learned edge = record learned { tables = learned.tables + 1; edge = edge }

module _ (table : List Row) (offers : List Offered) (before learned : Relay) (edge : Edge) (learn : LearnsRows table before learned)
    (took : TakesOffers (arc_value learned.domain) learned.tables table offers learned.edge edge) where
  -- the edge, as it was before, took the offers
  takes : TakesOffers (arc_value before.domain) before.tables table offers before.edge edge
  takes =
      subst (λ (from : Edge). TakesOffers (arc_value before.domain) before.tables table offers from edge) learn.edge
      (subst (λ (cycle : ℕ). TakesOffers (arc_value before.domain) cycle table offers learned.edge edge) learn.tables
      (subst (λ (d : Domain). TakesOffers d learned.tables table offers learned.edge edge) (ap arc_value learn.domain) took))

  -- any state of the bridge becomes the state with the table
  table_stands : (d : Domain) (come : Come) (sends : Sendings) → StandsSo d come sends before → MayBeTables d (come.tables ++ table ∷ []) →
      StandsSo d (with_table come table offers) sends (with_edge learned edge)
  table_stands d come sends stood may =
      let more : length (come.tables ++ table ∷ []) ≡ length come.tables + 1 = length_push come.tables table in
      let further : length (come.offers ++ offers ∷ []) ≡ length come.offers + 1 = length_push come.offers offers in
      record {
        of_domain = ap arc_value learn.domain ∙ stood.of_domain;
        tables_taken = omega (arith, more, learn.tables, stood.tables_taken);
        offers_taken = omega (arith, more, further, stood.offers_taken);
        into = ap (λ inlets. map link_in inlets.items) learn.inlets ∙ stood.into ∙ ap (links_into d) (sym learn.number);
        from = links_learned new before.outlets.items learned.outlets.items learn.learn ∙ stood.from ∙ ap (links_from d) (sym learn.number);
        rows = subst (λ (known : ℕ). AreKnown (come.tables ++ table ∷ []) known learned.outlets.items) (sym learn.known)
            (known_with d before.number come table offers before.known may stood.offers_taken stood.rows.below stood.rows.last before.outlets.items
            learned.outlets.items stood.rows learn.learn);
        least = stood.least;
        early = all_from_members (λ (outlet : Outlet). stood.least ≤ outlet.sent - 1) learned.outlets.items (λ outlet there.
            let was = was_one new before.outlets.items learned.outlets.items learn.learn outlet there in
            let least : stood.least ≤ was.outlet.sent - 1 =
            All-contains (λ (it : Outlet). stood.least ≤ it.sent - 1) before.outlets.items was.outlet stood.early was.there in
            let same : outlet.sent ≡ was.outlet.sent = was.has.sent in
            omega (arith, least, same));
        inlets = subst (λ inlets. All (IsInletOf (with_table come table offers) stood.least) inlets.items) (sym learn.inlets)
            (All-weaker (IsInletOf come stood.least) (IsInletOf (with_table come table offers) stood.least)
            (λ inlet is. record { upto = is.upto; may = is.may; held = is.held; holds = is.holds }) before.inlets.items stood.inlets);
        edge = subst (λ (bridge : ℕ). IsEdgeOf d bridge (with_table come table offers) stood.least edge) (sym learn.number)
            (edge_with d before.number stood.least come table offers before.edge edge stood.offers_taken stood.edge
            (subst (λ (cycle : ℕ). TakesOffers d cycle table offers before.edge edge) stood.tables_taken
            (subst (λ (it : Domain). TakesOffers it before.tables table offers before.edge edge) stood.of_domain takes)));
        outlets = all_from_members (λ (outlet : Outlet). IsOutletOf d learned.number (with_table come table offers) (sends outlet.trace.link) outlet)
            learned.outlets.items (λ outlet there.
            let was = was_one new before.outlets.items learned.outlets.items learn.learn outlet there in
            let link : outlet.trace.link ≡ was.outlet.trace.link = ap (λ trace. trace.link) was.has.trace in
            subst (λ (bridge : ℕ). IsOutletOf d bridge (with_table come table offers) (sends outlet.trace.link) outlet) (sym learn.number)
            (subst (λ (l : ℕ). IsOutletOf d before.number (with_table come table offers) (sends l) outlet) (sym link)
            (outlet_with d before.number come table offers before.known may stood.offers_taken stood.rows.below stood.rows.last
            (sends was.outlet.trace.link) was.outlet outlet
            (All-contains (λ (it : Outlet). IsOutletOf d before.number come (sends it.trace.link) it) before.outlets.items was.outlet stood.outlets was.there)
            (All-contains (λ (it : Outlet). length it.leads.rows.items ≤ before.known) before.outlets.items was.outlet stood.rows.room was.there)
            was.has)));
      }
    where
      -- the new rows
      new : List Row
      new = new_rows before.known table

  -- so the table is taken
  pub table_taken : TakesTable table offers before (with_edge learned edge)
  table_taken = record {
    same = record {
      domain = learn.domain;
      number = learn.number;
      cycles = learn.cycles;
      links_in = ap (λ inlets. map link_in inlets.items) learn.inlets;
      links_out = links_learned (new_rows before.known table) before.outlets.items learned.outlets.items learn.learn;
      wires = wires_learned (new_rows before.known table) before.outlets.items learned.outlets.items learn.learn;
      tidy = tidy_learned (new_rows before.known table) before.outlets.items learned.outlets.items learn.learn;
      within = within_learned before.cycles (new_rows before.known table) before.outlets.items learned.outlets.items learn.learn;
    };
    taken = ap (λ (tables : ℕ). tables + 1) learn.tables;
    reported_same = reported_learned (new_rows before.known table) before.outlets.items learned.outlets.items learn.learn;
    stands = table_stands;
    fresh = takes.fresh;
    following = takes.following;
    are_drops = λ d come sends stood may.
        subst (λ (it : Domain). IsPermutation (dropped_after it before.number before.tables table [] offers) takes.fresh) stood.of_domain
        (subst (λ (bridge : ℕ). IsPermutation (dropped_after (arc_value before.domain) bridge before.tables table [] offers) takes.fresh) stood.edge.number
        (takes.are_drops (subst (λ (next : ℕ). CountsUpto next before.edge.used.items) (sym stood.tables_taken) stood.edge.counted)));
    by_frame = takes.by_frame;
  }
