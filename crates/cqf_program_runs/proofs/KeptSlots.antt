-- What is kept of the frames under way, start by start.
use Rattle.std.proofs.Common.{◌≡◌, ◌≢◌, ◌∙◌, ◌++◌, ◌∷◌, [], ◌<◌, ◌+◌, ◌≤◌, ◌⊎◌, ◌==◌, ◌&&◌, ℕ, Bool, true, false, List, Option, Some, None, Contains}
use Rattle.std.proofs.Common.{ap, append-nil, append_assoc, arith, cond, drop, find, get_or, inl, inr, length, option_map, refl, replicate, set, subst, sym, take}
use Rattle.std.specs.Global.{Global}
use Rattle.std.specs.Option.{option_and_then, option_or}
use Rattle.std.specs.declared.vec.Vec.{Vec}
use Rattle.std.specs.Prelude.{slice_get, suc}
use Rattle.std.proofs.lemmas.Bool.{cases_Bool, cases_lt}
use Rattle.std.proofs.lemmas.Bool.Decides.{nat_tests}
use Rattle.std.proofs.lemmas.List.{get_or-map, get_or-replicate, get_or-set_other, get_or-set_same, get_or_append_left, get_or_past, length-append}
use Rattle.std.proofs.lemmas.List.{length-map, length-replicate, length-set, map-append, map-set}
use Rattle.std.proofs.lemmas.List.Folds.{find-append}
use Rattle.std.proofs.lemmas.List.Quantifiers.{position-Some}
use Rattle.std.proofs.lemmas.Option.{slice_get-get_or, slice_get_within}
use Rattle.cqf_compile.proofs.Bridges.{no_hop}
use Rattle.cqf_lists.proofs.Members.{contains_at, contains_from_filter}
use Rattle.cqf_units.specs.declared.timing.Nanos.{Nanos}
use Rattle.cqf_model.specs.declared.frames.Started.{Started}
use Rattle.cqf_model.specs.declared.topology.Hop.{Hop}
use Rattle.cqf_model.specs.declared.topology.Row.{Row}
use Rattle.cqf_model.specs.declared.topology.Link.{Link}
use Rattle.cqf_model.specs.Domain.{Domain, end_of}
use Rattle.cqf_instants_run.specs.declared.judged.EdgeVerdict.{EdgeVerdict}
use Rattle.cqf_instants_run.specs.declared.judged.EdgeVerdict.TheVariants.{Covered, Dropped}
use Rattle.cqf_program_plans.specs.Latency.Text.{is_station, listeners_of}
use Rattle.cqf_program_runs.specs.Deliveries.{whole_instant, whole_on}
use Rattle.cqf_program_runs.specs.Deliveries.UnderWay.{AreEmptySlots, AreSlots, KeepsFirst, KeepsInSlot, NotesAll, column_of, row_at, row_judged, slots_of}

-- the image of the first of two
map_or : {X Y : Type 0} (f : X → Y) (a b : Option X) → option_map f (option_or a b) ≡ option_or (option_map f a) (option_map f b)
map_or f None b = refl
map_or f (Some x) b = refl

pub or_none : {X : Type 0} (a : Option X) → option_or a None ≡ a
or_none None = refl
or_none (Some x) = refl

-- two numbers that aren't both equal to a given pair
pub not_these : (a b m n : ℕ) → (a ≡ m → b ≡ n → ⊥) → ((a == m) && (b == n)) ≡ false
not_these a b m n never = by (a == m) (b == n) refl refl
  where
    by : (p q : Bool) → (a == m) ≡ p → (b == n) ≡ q → ((a == m) && (b == n)) ≡ false
    by true true ep eq = absurd (never (grind (arith, nat_tests)) (grind (arith, nat_tests)))
    by true false ep eq = λ i. ep i && eq i
    by false q ep eq = λ i. ep i && eq i

both_these : (a b m n : ℕ) → a ≡ m → b ≡ n → ((a == m) && (b == n)) ≡ true
both_these a b m n one two =
    let first : (a == m) ≡ true = grind (arith, nat_tests) in
    let second : (b == n) ≡ true = grind (arith, nat_tests) in
    λ i. first i && second i

-- when a frame is whole, with one start more
module _ (d : Domain) (starts : List Started) (s : Started) (frame link : ℕ) where
  by_both : (b : Bool) → ((s.frame == frame) && (s.link == link)) ≡ b →
      whole_on d (starts ++ s ∷ []) frame link ≡ option_or (whole_on d starts frame link) (option_map (whole_instant d) (cond b (Some s) None))
  by_both b is =
      ap (option_map (whole_instant d)) (find-append (λ (z : Started). (z.frame == frame) && (z.link == link)) starts (s ∷ []))
      ∙ map_or (whole_instant d) (find (λ (z : Started). (z.frame == frame) && (z.link == link)) starts) (cond ((s.frame == frame) && (s.link == link)) (Some s) None)
      ∙ ap (λ (c : Bool). option_or (whole_on d starts frame link) (option_map (whole_instant d) (cond c (Some s) None))) is

  -- a start of another frame, or on another link, changes nothing
  pub whole_as_before : (s.frame ≡ frame → s.link ≡ link → ⊥) → whole_on d (starts ++ s ∷ []) frame link ≡ whole_on d starts frame link
  whole_as_before never = by_both false (not_these s.frame s.link frame link never) ∙ or_none (whole_on d starts frame link)

  -- otherwise the first start counts
  pub whole_at_first : s.frame ≡ frame → s.link ≡ link →
      whole_on d (starts ++ s ∷ []) frame link ≡ option_or (whole_on d starts frame link) (Some (whole_instant d s))
  whole_at_first one two = by_both true (both_these s.frame s.link frame link one two)

-- the row by which an offer goes on is one of the rows
pub row_at_member : (rows : List Row) (edge_verdicts : List EdgeVerdict) (index : ℕ) (row : Row) → row_at rows edge_verdicts index ≡ Some row → Contains rows row
row_at_member rows edge_verdicts index row found = by (slice_get edge_verdicts index) found
  where
    by : (o : Option EdgeVerdict) → option_and_then (row_judged rows) o ≡ Some row → Contains rows row
    by None e = absurd (cc)
    by (Some (Covered k)) e = contains_at rows k row e
    by (Some (Dropped reason)) e = absurd (cc)

-- and the offer has a verdict
pub row_at_within : (rows : List Row) (edge_verdicts : List EdgeVerdict) (index : ℕ) (row : Row) → row_at rows edge_verdicts index ≡ Some row →
    index < length edge_verdicts
row_at_within rows edge_verdicts index row found = by (slice_get edge_verdicts index) refl found
  where
    by : (o : Option EdgeVerdict) → slice_get edge_verdicts index ≡ o → option_and_then (row_judged rows) o ≡ Some row → index < length edge_verdicts
    by None at e = absurd (cc)
    by (Some edge_verdict) at e = slice_get_within edge_verdicts index edge_verdict at

-- a column is one of a listener, and of one link
pub column_within : (d : Domain) (row : Row) (link column : ℕ) → column_of d row link ≡ Some column → column < length (listeners_of d row)
column_within d row link column at = (position-Some (λ (hop : Hop). hop.link == link) (listeners_of d row) column no_hop at).0

pub one_link : (d : Domain) (row : Row) (a b column : ℕ) → column_of d row a ≡ Some column → column_of d row b ≡ Some column → a ≡ b
one_link d row a b column one two =
    let hop = get_or (listeners_of d row) column no_hop in
    let first : (hop.link == a) ≡ true = (position-Some (λ (h : Hop). h.link == a) (listeners_of d row) column no_hop one).1 in
    let second : (hop.link == b) ≡ true = (position-Some (λ (h : Hop). h.link == b) (listeners_of d row) column no_hop two).1 in
    let is_a : hop.link ≡ a = grind (arith, nat_tests) in
    let is_b : hop.link ≡ b = grind (arith, nat_tests) in
    sym is_a ∙ is_b

-- the row in which a column is found
pub column_found : (d : Domain) (found : Option Row) (link column : ℕ) → option_and_then (λ (row : Row). column_of d row link) found ≡ Some column →
    (row : Row) × (found ≡ Some row) × (column_of d row link ≡ Some column)
column_found d None link column is = absurd (cc)
column_found d (Some row) link column is = (row, refl, is)

-- a link that ends in a station is one of the domain's, and one with a column ends in a station
pub station_there : (d : Domain) (link : ℕ) → is_station (end_of d link) ≡ true → link < length d.links
station_there d link is = by (slice_get d.links link) refl is
  where
    by : (o : Option Link) → slice_get d.links link ≡ o → is_station (option_map (λ (l : Link). l.to) o) ≡ true → link < length d.links
    by None e h = absurd (cc)
    by (Some l) e h = slice_get_within d.links link l e

pub column_of_station : (d : Domain) (row : Row) (link column : ℕ) → column_of d row link ≡ Some column → is_station (end_of d link) ≡ true
column_of_station d row link column at =
    let found = position-Some (λ (hop : Hop). hop.link == link) (listeners_of d row) column no_hop at in
    let hop = get_or (listeners_of d row) column no_hop in
    let among : Contains (listeners_of d row) hop =
    contains_at (listeners_of d row) column hop (slice_get-get_or (listeners_of d row) column no_hop found.0) in
    let passes : (hop.link == link) ≡ true = found.1 in
    let same : hop.link ≡ link = grind (arith, nat_tests) in
    sym (ap (λ (l : ℕ). is_station (end_of d l)) same)
    ∙ (contains_from_filter (λ (h : Hop). is_station (end_of d h.link)) row.tree.items hop among).1

-- the slot at an index is set
pub keeps_set : (slots : List (Vec (Option Nanos) Global)) (following column : ℕ) (own old default : Vec (Option Nanos) Global) (whole : Nanos) →
    following < length slots → old ≡ get_or slots following default → KeepsFirst old.items own.items column whole →
    KeepsInSlot (slots_of slots) (slots_of (set slots following own)) following column whole
keeps_set slots following column own old default whole below at keeps = record {
  as_many = ap length same ∙ length-set (slots_of slots) following own.items;
  own = subst (λ (before : List (Option Nanos)). KeepsFirst before (get_or (slots_of (set slots following own)) following []) column whole)
      (ap items at ∙ sym (get_or-map items slots following default [] below))
      (subst (λ (after : List (Option Nanos)). KeepsFirst old.items after column whole) (sym set_there) keeps);
  others = λ other apart.
      ap (λ (zs : List (List (Option Nanos))). get_or zs other []) same ∙ get_or-set_other (slots_of slots) following other own.items [] apart;
}
  where
    -- the columns of a slot
    items : Vec (Option Nanos) Global → List (Option Nanos)
    items v = v.items

    -- setting a slot sets its columns
    same : slots_of (set slots following own) ≡ set (slots_of slots) following own.items
    same = map-set (λ (v : Vec (Option Nanos) Global). v.items) slots following own

    set_there : get_or (slots_of (set slots following own)) following [] ≡ own.items
    set_there =
        ap (λ (zs : List (List (Option Nanos))). get_or zs following []) same
        ∙ get_or-set_same (slots_of slots) following own.items [] (omega (arith, below, length-map slots items))

-- the first slot is set and becomes the last
pub turned : (slots : List (Vec (Option Nanos) Global)) (own : Vec (Option Nanos) Global) → 0 < length slots →
    slots_of (drop 1 (set slots 0 own) ++ take 1 (set slots 0 own)) ≡ drop 1 (slots_of slots) ++ own.items ∷ []
turned [] own some = absurd (omega (arith, some))
turned (x ∷ slots) own some = map-append (λ (v : Vec (Option Nanos) Global). v.items) slots (own ∷ [])

pub turned_many : (slots : List (Vec (Option Nanos) Global)) (own : Vec (Option Nanos) Global) → 0 < length slots →
    length (drop 1 (set slots 0 own) ++ take 1 (set slots 0 own)) ≡ length slots
turned_many [] own some = absurd (omega (arith, some))
turned_many (x ∷ slots) own some = (let joined = length-append slots (own ∷ []) in omega (arith, joined))

abbrev no_slots : List (List (Option Nanos))
no_slots = []

abbrev no_columns : List (Option Nanos)
no_columns = []

-- past the end there is nothing
past_none : (following : ℕ) → get_or no_slots following [] ≡ []
past_none following = get_or_past no_slots following [] (omega arith)

none_past : (column : ℕ) → get_or no_columns column None ≡ None
none_past column = get_or_past no_columns column None (omega arith)

-- no slots, and an empty one more
pub empty_none : (width : ℕ) (slots : List (Vec (Option Nanos) Global)) → slots ≡ [] → AreEmptySlots width 0 (slots_of slots)
empty_none width slots none = record {
  count = ap (λ (xs : List (Vec (Option Nanos) Global)). length (slots_of xs)) none;
  wide = λ following below. absurd (omega (arith, below));
  none = λ following column.
      ap (λ (xs : List (Vec (Option Nanos) Global)). get_or (get_or (slots_of xs) following []) column None) none
      ∙ ap (λ (xs : List (Option Nanos)). get_or xs column None) (past_none following)
      ∙ none_past column;
}

pub empty_more : (width n : ℕ) (slots after : List (Vec (Option Nanos) Global)) (last : Vec (Option Nanos) Global) →
    AreEmptySlots width n (slots_of slots) → last.items ≡ replicate width None → after ≡ slots ++ last ∷ [] →
    AreEmptySlots width (n + 1) (slots_of after)
empty_more width n slots after last empty is joined = record {
  count = ap length same ∙ length-append (slots_of slots) (last.items ∷ []) ∙ ap (λ (k : ℕ). k + 1) empty.count;
  wide = λ following below. ap (λ (xs : List (List (Option Nanos))). length (get_or xs following [])) same ∙ wide_at following below (cases_lt following n);
  none = λ following column. ap (λ (xs : List (List (Option Nanos))). get_or (get_or xs following []) column None) same ∙ none_at following column (cases_lt following n);
}
  where
    same : slots_of after ≡ slots_of slots ++ last.items ∷ []
    same = ap slots_of joined ∙ map-append (λ (v : Vec (Option Nanos) Global). v.items) slots (last ∷ [])

    nothing : (column : ℕ) → get_or last.items column None ≡ None
    nothing column = ap (λ (xs : List (Option Nanos)). get_or xs column None) is ∙ by (cases_lt column width)
      where
        columns : List (Option Nanos)
        columns = replicate width None

        by : (column < width) ⊎ (width ≤ column) → get_or columns column None ≡ None
        by (inl inside) = get_or-replicate width column None None inside
        by (inr past) = get_or_past columns column None (omega (arith, past, length-replicate {A = Option Nanos} width None))

    at_last : get_or (slots_of slots ++ last.items ∷ []) n [] ≡ last.items
    at_last = ap (λ (k : ℕ). get_or (slots_of slots ++ last.items ∷ []) k []) (sym empty.count) ∙ at_end (slots_of slots)
      where
        at_end : (xs : List (List (Option Nanos))) → get_or (xs ++ last.items ∷ []) (length xs) [] ≡ last.items
        at_end [] = refl
        at_end (x ∷ xs) = at_end xs

    wide_at : (following : ℕ) → following < n + 1 → (following < n) ⊎ (n ≤ following) → length (get_or (slots_of slots ++ last.items ∷ []) following []) ≡ width
    wide_at following below (inl l) =
        ap (λ (slot : List (Option Nanos)). length slot) (get_or_append_left (slots_of slots) (last.items ∷ []) [] following (omega (arith, l, empty.count)))
        ∙ empty.wide following l
    wide_at following below (inr g) =
        let here : following ≡ n = omega (arith, below, g) in
        ap (λ (k : ℕ). length (get_or (slots_of slots ++ last.items ∷ []) k [])) here
        ∙ ap (λ (slot : List (Option Nanos)). length slot) (at_last ∙ is) ∙ length-replicate {A = Option Nanos} width None

    none_at : (following column : ℕ) → (following < n) ⊎ (n ≤ following) → get_or (get_or (slots_of slots ++ last.items ∷ []) following []) column None ≡ None
    none_at following column (inl l) =
        ap (λ (slot : List (Option Nanos)). get_or slot column None)
        (get_or_append_left (slots_of slots) (last.items ∷ []) [] following (omega (arith, l, empty.count)))
        ∙ empty.none following column
    none_at following column (inr g) = elim (cases_lt n following) [
      | inl past ↦
          ap (λ (slot : List (Option Nanos)). get_or slot column None)
          (get_or_past (slots_of slots ++ last.items ∷ []) following [] (omega (arith, past, empty.count, length-append (slots_of slots) (last.items ∷ []))))
          ∙ none_past column
      | inr least ↦
          let here : following ≡ n = omega (arith, g, least) in
          ap (λ (k : ℕ). get_or (get_or (slots_of slots ++ last.items ∷ []) k []) column None) here
          ∙ ap (λ (slot : List (Option Nanos)). get_or slot column None) at_last ∙ nothing column
    ]

-- the same or another
same_or_other : (a b : ℕ) → (a ≡ b) ⊎ (a ≢ b)
same_or_other a b = elim (cases_Bool (a == b)) [
  | inl e ↦ inl (grind (arith, nat_tests))
  | inr e ↦ inr (λ (same : a ≡ b). grind (arith, nat_tests))
]

pub some_same : {X : Type 0} (x y : X) → Some x ≡ Some y → x ≡ y
some_same x y e = cc

module _ (d : Domain) (rows : List Row) (edge_verdicts : List EdgeVerdict) (index : ℕ) where
  -- nothing more is noted
  pub notes_none : (slots : List (List (Option Nanos))) → NotesAll d rows edge_verdicts index [] slots slots
  notes_none slots = record {
    as_many = refl;
    noted = λ starts width are. subst (λ (ss : List Started). AreSlots d rows edge_verdicts ss index width slots) (sym (append-nil starts)) are;
  }

  -- starts after starts
  pub notes_then : (first second : List Started) (before between after : List (List (Option Nanos))) →
      NotesAll d rows edge_verdicts index first before between → NotesAll d rows edge_verdicts index second between after →
      NotesAll d rows edge_verdicts index (first ++ second) before after
  notes_then first second before between after one two = record {
    as_many = two.as_many ∙ one.as_many;
    noted = λ starts width are.
        subst (λ (ss : List Started). AreSlots d rows edge_verdicts ss index width after) (append_assoc starts first second)
        (two.noted (starts ++ first) width (one.noted starts width are));
  }

  module _ (s : Started) where
    -- a start is skipped if it is of no frame that is kept, or reaches none of its listeners
    pub passed_over : (slots : List (List (Option Nanos))) →
        ((following : ℕ) (row : Row) (column : ℕ) → following < length slots → row_at rows edge_verdicts (index + following) ≡ Some row →
        column_of d row s.link ≡ Some column → s.frame ≡ index + following + 1 → ⊥) →
        NotesAll d rows edge_verdicts index (s ∷ []) slots slots
    passed_over slots none = record {
      as_many = refl;
      noted = λ starts width are. record {
        room = are.room;
        wide = are.wide;
        write = λ following below row link column found at.
            are.write following below row link column found at
            ∙ sym (whole_as_before d starts s (index + following + 1) link (λ own on.
            none following row column below found (subst (λ (l : ℕ). column_of d row l ≡ Some column) (sym on) at) own));
      };
    }

    -- and another start is noted
    module _ (before after : List (List (Option Nanos))) (row : Row) (following column : ℕ) (own : s.frame ≡ index + following + 1)
        (below : following < length before) (found : row_at rows edge_verdicts (index + following) ≡ Some row) (at : column_of d row s.link ≡ Some column)
        (keeps : KeepsInSlot before after following column (whole_instant d s)) where
      module _ (starts : List Started) (width : ℕ) (are : AreSlots d rows edge_verdicts starts index width before) where
        wide_then : (k : ℕ) → k < length after → (k ≡ following) ⊎ (k ≢ following) → length (get_or after k []) ≡ width
        wide_then k inside (inl same) =
            ap (λ (j : ℕ). length (get_or after j [])) same ∙ keeps.own.as_many ∙ are.wide following below
        wide_then k inside (inr other) =
            ap (λ (slot : List (Option Nanos)). length slot) (keeps.others k other) ∙ are.wide k (omega (arith, inside, keeps.as_many))

        -- in the same slot
        write_there : (other : Row) (link c : ℕ) → row_at rows edge_verdicts (index + following) ≡ Some other → column_of d other link ≡ Some c →
            (c ≡ column) ⊎ (c ≢ column) → get_or (get_or after following []) c None ≡ whole_on d (starts ++ s ∷ []) (index + following + 1) link
        write_there other link c found_it at_it (inl same) =
            let is_row : other ≡ row = some_same other row (sym found_it ∙ found) in
            let here : column_of d row link ≡ Some column = subst (λ (r : Row). column_of d r link ≡ Some column) is_row (at_it ∙ ap Some same) in
            let on : s.link ≡ link = one_link d row s.link link column at here in
            let inside : column < length (get_or before following []) =
            omega (arith, column_within d row s.link column at, are.room row (row_at_member rows edge_verdicts (index + following) row found), are.wide following below) in
            ap (λ (j : ℕ). get_or (get_or after following []) j None) same
            ∙ keeps.own.own inside
            ∙ ap (λ (o : Option Nanos). option_or o (Some (whole_instant d s))) (are.write following below row link column found here)
            ∙ sym (whole_at_first d starts s (index + following + 1) link own on)
        write_there other link c found_it at_it (inr apart) =
            let is_row : other ≡ row = some_same other row (sym found_it ∙ found) in
            let here : column_of d row link ≡ Some c = subst (λ (r : Row). column_of d r link ≡ Some c) is_row at_it in
            keeps.own.others c apart
            ∙ are.write following below other link c found_it at_it
            ∙ sym (whole_as_before d starts s (index + following + 1) link (λ _ on.
            apart (some_same c column (sym here ∙ ap (column_of d row) (sym on) ∙ at))))

        write_then : (k : ℕ) (other : Row) (link c : ℕ) → k < length after → row_at rows edge_verdicts (index + k) ≡ Some other →
            column_of d other link ≡ Some c → (k ≡ following) ⊎ (k ≢ following) →
            get_or (get_or after k []) c None ≡ whole_on d (starts ++ s ∷ []) (index + k + 1) link
        write_then k other link c inside found_it at_it (inl same) =
            subst (λ (j : ℕ). get_or (get_or after j []) c None ≡ whole_on d (starts ++ s ∷ []) (index + j + 1) link) (sym same)
            (write_there other link c (subst (λ (j : ℕ). row_at rows edge_verdicts (index + j) ≡ Some other) same found_it) at_it (same_or_other c column))
        write_then k other link c inside found_it at_it (inr apart) =
            ap (λ (slot : List (Option Nanos)). get_or slot c None) (keeps.others k apart)
            ∙ are.write k (omega (arith, inside, keeps.as_many)) other link c found_it at_it
            ∙ sym (whole_as_before d starts s (index + k + 1) link (λ frame _. apart (omega (arith, frame, own))))

      pub noted_there : NotesAll d rows edge_verdicts index (s ∷ []) before after
      noted_there = record {
        as_many = keeps.as_many;
        noted = λ starts width are. record {
          room = are.room;
          wide = λ k inside. wide_then starts width are k inside (same_or_other k following);
          write = λ k inside other link c found_it at_it. write_then starts width are k other link c inside found_it at_it (same_or_other k following);
        };
      }

-- the first slot is emptied and becomes that of the frame after the last one; nothing is known of that frame
module _ (d : Domain) (rows : List Row) (edge_verdicts : List EdgeVerdict) (starts : List Started) (index width : ℕ)
    (emptied : List (Option Nanos)) where
  slots_next_of : (first : List (Option Nanos)) (more : List (List (Option Nanos))) → AreSlots d rows edge_verdicts starts index width (first ∷ more) →
      length emptied ≡ width → ((column : ℕ) → get_or emptied column None ≡ None) →
      ((row : Row) (link : ℕ) → row_at rows edge_verdicts (index + (length more + 1)) ≡ Some row →
      whole_on d starts (index + (length more + 1) + 1) link ≡ None) →
      AreSlots d rows edge_verdicts starts (index + 1) width (more ++ emptied ∷ [])
  slots_next_of first more are as_wide none nothing = record {
    room = are.room;
    wide = λ following inside. wide_at following inside (cases_lt following (length more));
    write = λ following inside row link column found at. write_at following inside row link column found at (cases_lt following (length more));
  }
    where
      -- the last slot is the emptied one
      last : (following : ℕ) → following < length (more ++ emptied ∷ []) → length more ≤ following → get_or (more ++ emptied ∷ []) following [] ≡ emptied
      last following inside past =
          let here : following ≡ length more = omega (arith, inside, past, length-append more (emptied ∷ [])) in
          ap (λ (k : ℕ). get_or (more ++ emptied ∷ []) k []) here ∙ at_end more
        where
          at_end : (xs : List (List (Option Nanos))) → get_or (xs ++ emptied ∷ []) (length xs) [] ≡ emptied
          at_end [] = refl
          at_end (x ∷ xs) = at_end xs

      wide_at : (following : ℕ) → following < length (more ++ emptied ∷ []) → (following < length more) ⊎ (length more ≤ following) →
          length (get_or (more ++ emptied ∷ []) following []) ≡ width
      wide_at following inside (inl before) =
          ap (λ (slot : List (Option Nanos)). length slot) (get_or_append_left more (emptied ∷ []) [] following before)
          ∙ are.wide (suc following) (omega (arith, before))
      wide_at following inside (inr past) = ap (λ (slot : List (Option Nanos)). length slot) (last following inside past) ∙ as_wide

      write_at : (following : ℕ) → following < length (more ++ emptied ∷ []) → (row : Row) (link column : ℕ) →
          row_at rows edge_verdicts (index + 1 + following) ≡ Some row → column_of d row link ≡ Some column →
          (following < length more) ⊎ (length more ≤ following) →
          get_or (get_or (more ++ emptied ∷ []) following []) column None ≡ whole_on d starts (index + 1 + following + 1) link
      write_at following inside row link column found at (inl before) =
          let shift : index + 1 + following ≡ index + suc following = omega arith in
          ap (λ (slot : List (Option Nanos)). get_or slot column None) (get_or_append_left more (emptied ∷ []) [] following before)
          ∙ are.write (suc following) (omega (arith, before)) row link column (subst (λ (k : ℕ). row_at rows edge_verdicts k ≡ Some row) shift found) at
          ∙ ap (λ (k : ℕ). whole_on d starts (k + 1) link) (sym shift)
      write_at following inside row link column found at (inr past) =
          let here : index + (length more + 1) ≡ index + 1 + following = omega (arith, inside, past, length-append more (emptied ∷ [])) in
          ap (λ (slot : List (Option Nanos)). get_or slot column None) (last following inside past)
          ∙ none column
          ∙ sym (nothing row link (subst (λ (k : ℕ). row_at rows edge_verdicts k ≡ Some row) (sym here) found))
          ∙ ap (λ (k : ℕ). whole_on d starts (k + 1) link) here

  pub slots_next : (slots after : List (List (Option Nanos))) → 0 < length slots → AreSlots d rows edge_verdicts starts index width slots →
      length emptied ≡ width → ((column : ℕ) → get_or emptied column None ≡ None) → after ≡ drop 1 slots ++ emptied ∷ [] →
      ((row : Row) (link : ℕ) → row_at rows edge_verdicts (index + length slots) ≡ Some row →
      whole_on d starts (index + length slots + 1) link ≡ None) → AreSlots d rows edge_verdicts starts (index + 1) width after
  slots_next [] after some are as_wide none is nothing = absurd (omega (arith, some))
  slots_next (first ∷ more) after some are as_wide none is nothing =
      subst (λ (xs : List (List (Option Nanos))). AreSlots d rows edge_verdicts starts (index + 1) width xs) (sym is)
      (slots_next_of first more are as_wide none (λ row link found.
      let same : index + (length more + 1) ≡ index + length (first ∷ more) = omega arith in
      ap (λ (k : ℕ). whole_on d starts (k + 1) link) same
      ∙ nothing row link (subst (λ (k : ℕ). row_at rows edge_verdicts k ≡ Some row) same found)))
