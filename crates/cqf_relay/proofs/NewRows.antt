-- The new rows of the next table, and what a link knows with them.
use Rattle.std.proofs.Common.{ℕ, ◌≡◌, ◌∙◌, ◌+◌, ◌<◌, ◌≤◌, ◌==◌, ◌||◌, Bool, true, false, cond, List, [], ◌∷◌, ◌++◌, length}
use Rattle.std.proofs.Common.{refl, sym, ap, subst, inl, inr, ◌⊎◌, arith, Option, Some, None}
use Rattle.std.specs.Prelude.{AllPairs, Contains, filter, find, nat_le}
use Rattle.std.specs.List.{flat_map, list_any}
use Rattle.std.specs.Option.{option_or}
use Rattle.std.proofs.lemmas.Bool.{both_ways, cases_Bool, cases_lt, eqb-true, le-leb, leb-true}
use Rattle.std.proofs.lemmas.List.{append-nil, get_or_append_left, get_or_at, length_push, take-append-le, take_all}
use Rattle.std.proofs.lemmas.List.Concat.{flat_map-append}
use Rattle.std.proofs.lemmas.List.Elements.{Contains-get_or, at_from_Contains}
use Rattle.std.proofs.lemmas.List.Folds.{find-append, list_any-append}
use Rattle.std.proofs.lemmas.List.Kept.{AllPairs-filter}
use Rattle.cqf_lists.proofs.Members.{any_member, contains_filter, contains_flat, contains_from_filter, contains_from_flat, find_member, find_some, member_any}
use Rattle.cqf_model.specs.declared.topology.Hop.{Hop}
use Rattle.cqf_model.specs.declared.topology.Row.{Row}
use Rattle.cqf_model.specs.Domain.{Domain}
use Rattle.cqf_model.specs.Table.{links_in, row_of, same_ingress, table_of}
use Rattle.cqf_relay.specs.declared.leads.By.TheVariants.{Nothing}
use Rattle.cqf_relay.specs.declared.leads.Leads.{Leads}
use Rattle.cqf_relay.specs.Leading.{by_hops, by_row, is_link, leads}
use Rattle.cqf_relay.specs.Standing.{KnowsRows, MayBeTables, all_rows, new_rows, rows_of}
use Rattle.cqf_relay.proofs.Learning.{ComeAfter, LearnsAll, fits_learned, found_or, leads_by_hops, leads_row, needs_learned, rows_learned}

-- the tables before the last one are unchanged
pub table_before : (tables : List (List Row)) (table : List Row) (cycle : ℕ) → cycle < length tables →
    table_of (tables ++ table ∷ []) cycle ≡ table_of tables cycle
table_before tables table cycle early = get_or_append_left tables (table ∷ []) [] cycle early

-- the last one is the new one
pub table_last : (tables : List (List Row)) (table : List Row) → table_of (tables ++ table ∷ []) (length tables) ≡ table
table_last tables table = get_or_at tables table [] [] (length tables) refl

-- the rows of the first tables are unchanged
pub rows_before : (tables : List (List Row)) (table : List Row) (count : ℕ) → count ≤ length tables →
    rows_of (tables ++ table ∷ []) count ≡ rows_of tables count
rows_before tables table count within = ap (flat_map (λ (rows : List Row). rows)) (take-append-le count tables (table ∷ []) within)

-- the last table's rows follow those of all earlier ones
pub all_rows_more : (tables : List (List Row)) (table : List Row) → all_rows (tables ++ table ∷ []) ≡ all_rows tables ++ table
all_rows_more tables table =
    let more : length (tables ++ table ∷ []) ≡ length tables + 1 = length_push tables table in
    let each = λ (rows : List Row). rows in
    ap (flat_map each) (take_all (length (tables ++ table ∷ [])) (tables ++ table ∷ []) (omega arith))
    ∙ flat_map-append each tables (table ∷ [])
    ∙ (λ i. flat_map each (sym (take_all (length tables) tables (omega arith)) i) ++ append-nil table i)

-- a row of a table that has arrived is one of all rows
pub row_of_all : (tables : List (List Row)) (cycle : ℕ) (row : Row) → cycle < length tables → Contains (table_of tables cycle) row →
    Contains (all_rows tables) row
row_of_all tables cycle row early there =
    subst (λ (some : List (List Row)). Contains (flat_map (λ (rows : List Row). rows) some) row) (sym (take_all (length tables) tables (omega arith)))
    (contains_flat (λ (rows : List Row). rows) tables (table_of tables cycle) row (Contains-get_or tables cycle [] early) there)

-- a row is in the table of some cycle
pub record StandsIn (tables : List (List Row)) (row : Row) : Type 0 where
  pub cycle : ℕ
  pub early : cycle < length tables
  pub there : Contains (table_of tables cycle) row

-- each of all rows is
pub stands_in : (tables : List (List Row)) (row : Row) → Contains (all_rows tables) row → StandsIn tables row
stands_in tables row there =
    let some = contains_from_flat (λ (rows : List Row). rows) tables row
    (subst (λ (some : List (List Row)). Contains (flat_map (λ (rows : List Row). rows) some) row) (take_all (length tables) tables (omega arith)) there) in
    let at = at_from_Contains tables some.0 some.1 in
    record {
      cycle = at.0;
      early = at.1;
      there = subst (λ (rows : List Row). Contains rows row) (sym (at.2 [])) some.2;
    }

-- what is found isn't nothing
found_isnt_none : (found : Option Row) (row : Row) → found ≡ None → found ≡ Some row → ⊥
found_isnt_none found row none some = absurd cc

-- the first row found in a filtered list, if passing the one test implies passing the other
pub find_kept : (p q : Row → Bool) (rows : List Row) → ((row : Row) → p row ≡ true → q row ≡ true) → find p (filter q rows) ≡ find p rows
find_kept p q [] keeps = refl
find_kept p q (row ∷ rows) keeps = by (q row) (p row) refl (keeps row) (find_kept p q rows keeps)
  where
    -- the first row is kept, or passes neither
    by : (kept passes : Bool) → p row ≡ passes → (p row ≡ true → kept ≡ true) → find p (filter q rows) ≡ find p rows →
        find p (cond kept (row ∷ filter q rows) (filter q rows)) ≡ cond passes (Some row) (find p rows)
    by true passes is keeps same = λ i. cond (is i) (Some row) (same i)
    by false true is keeps same = absurd (both_ways false refl (keeps is))
    by false false is keeps same = same

-- two tests are the same if each implies the other
same_test : (a b : Bool) → (a ≡ true → b ≡ true) → (b ≡ true → a ≡ true) → a ≡ b
same_test true b there back = sym (there refl)
same_test false true there back = absurd (both_ways false refl (back refl))
same_test false false there back = refl

module _ (d : Domain) (tables : List (List Row)) (table : List Row) (known : ℕ) (may : MayBeTables d (tables ++ table ∷ []))
    (below : (row : Row) → Contains (all_rows tables) row → row.no < known)
    (last : (known ≡ 0) ⊎ ((row : Row) × Contains (all_rows tables) row × (row.no + 1 ≡ known))) where
  -- a row of the table is in it
  in_last : (row : Row) → Contains table row → Contains (table_of (tables ++ table ∷ []) (length tables)) row
  in_last row there = subst (λ (rows : List Row). Contains rows row) (sym (table_last tables table)) there

  -- if no row has a number, no row of an earlier table has it
  none_earlier : (number : ℕ) → row_of (all_rows tables) number ≡ None → (before : ℕ) → before < length tables →
      list_any (λ (it : Row). it.no == number) (table_of (tables ++ table ∷ []) before) ≡ false
  none_earlier number none before early = elim (cases_Bool (list_any (λ (it : Row). it.no == number) (table_of (tables ++ table ∷ []) before))) [
    | inr no_one ↦ no_one
    | inl some ↦
        let one = any_member (λ (it : Row). it.no == number) (table_of (tables ++ table ∷ []) before) some in
        let there = row_of_all tables before one.0 early (subst (λ (rows : List Row). Contains rows one.0) (table_before tables table before early) one.1) in
        let found = find_some (λ (it : Row). it.no == number) (all_rows tables) one.0 there one.2 in
        absurd (found_isnt_none (row_of (all_rows tables) number) found.0 none found.1)
  ]

  -- a row with a number below the known ones has arrived before
  pub has_come_before : (row : Row) → Contains table row → row.no < known → row_of (all_rows tables) row.no ≡ None → ⊥
  has_come_before row there low none = elim last [
    | inl zero_known ↦ absurd (omega (arith, zero_known, low))
    | inr some ↦
        let most = some.0 in
        let is : most.no + 1 ≡ known = some.2 in
        let stood = stands_in tables most some.1 in
        let following : most.no < row.no = may.following stood.cycle (length tables) most row stood.early
        (subst (λ (rows : List Row). Contains rows most) (sym (table_before tables table stood.cycle stood.early)) stood.there) (in_last row there)
        (none_earlier row.no none) in
        absurd (omega (arith, is, following, low))
  ]

  -- the new ones follow the known ones by number
  pub new_after : ComeAfter known (new_rows known table)
  new_after = record {
    by_number = AllPairs-filter (λ (row other : Row). row.no < other.no) (λ (it : Row). nat_le known it.no) table
        (subst (λ (rows : List Row). AllPairs (λ (row other : Row). row.no < other.no) rows) (table_last tables table)
        (may.by_number (length tables)));
    following = λ row there. leb-true known row.no (contains_from_filter (λ (it : Row). nat_le known it.no) table row there).1;
  }

  -- the row of a number, before and with the table
  row_with : (l number : ℕ) → found_or l (row_of (new_rows known table) number) (by_row l (row_of (all_rows tables) number))
      ≡ by_row l (option_or (row_of (all_rows tables) number) (row_of table number))
  row_with l number = elim (cases_lt number known) [
    | inl low ↦
        ap (λ (found : Option Row). found_or l found (by_row l (row_of (all_rows tables) number)))
        (none_found (row_of (new_rows known table) number) (λ row is.
        let there = find_member (λ (it : Row). it.no == number) (new_rows known table) row is in
        let same : row.no ≡ number = eqb-true row.no number there.1 in
        let high : known ≤ row.no = leb-true known row.no (contains_from_filter (λ (it : Row). nat_le known it.no) table row there.0).1 in
        omega (arith, same, high, low)))
        ∙ known_one (row_of (all_rows tables) number) (row_of table number) (λ none. none_found (row_of table number) (λ row is.
        let there = find_member (λ (it : Row). it.no == number) table row is in
        let same : row.no ≡ number = eqb-true row.no number there.1 in
        has_come_before row there.0 (omega (arith, same, low)) (ap (row_of (all_rows tables)) same ∙ none)))
    | inr high ↦
        let none = none_found (row_of (all_rows tables) number) (λ row is.
        let there = find_member (λ (it : Row). it.no == number) (all_rows tables) row is in
        let same : row.no ≡ number = eqb-true row.no number there.1 in
        let low : row.no < known = below row there.0 in
        omega (arith, same, low, high)) in
        let kept = find_kept (λ (it : Row). it.no == number) (λ (it : Row). nat_le known it.no) table (λ row is.
        le-leb known row.no (let same : row.no ≡ number = eqb-true row.no number is in omega (arith, same, high))) in
        (λ i. found_or l (kept i) (by_row l (none i))) ∙ new_one (row_of table number)
        ∙ ap (λ (found : Option Row). by_row l (option_or found (row_of table number))) (sym none)
  ]
    where
      -- if nothing can be found, there is none
      none_found : (found : Option Row) → ((row : Row) → found ≡ Some row → ⊥) → found ≡ None
      none_found None never = refl
      none_found (Some row) never = absurd (never row refl)

      -- a row that is found first is the one
      known_one : (one other : Option Row) → (one ≡ None → other ≡ None) → by_row l one ≡ by_row l (option_or one other)
      known_one None other none = ap (by_row l) (sym (none refl))
      known_one (Some row) other none = refl

      -- and if nothing was known, the one that is found
      new_one : (found : Option Row) → found_or l found Nothing ≡ by_row l found
      new_one None = refl
      new_one (Some row) = refl

  -- whether a row leads from a link to another, by its first hop of the latter
  abbrev by_tree : ℕ → ℕ → Row → Bool
  by_tree l m row = is_link (by_hops l row.tree.items) m

  -- a row of the table leads as it did before, or is new
  leads_with : (l m : ℕ) → (leads (all_rows tables) m l || list_any (by_tree l m) (new_rows known table))
      ≡ leads (all_rows tables ++ table) m l
  leads_with l m = either (leads (all_rows tables) m l) refl ∙ sym (list_any-append (leads_row m l) (all_rows tables) table)
    where
      -- each row of the table leads by its tree
      of_tree : (row : Row) → Contains table row → leads_row m l row ≡ is_link (by_hops l row.tree.items) m
      of_tree row there = leads_by_hops d l m row (may.orderly.trees (length tables) row (in_last row there))

      -- a row that isn't new leads as an earlier one of its stream
      earlier : leads (all_rows tables) m l ≡ false → (row : Row) → Contains table row → leads_row m l row ≡ true → known ≤ row.no
      earlier none row there does = elim (cases_lt row.no known) [
        | inr high ↦ high
        | inl low ↦ absurd (by (row_of (all_rows tables) row.no) refl low)
      ]
        where
          -- by the row of its number that arrived before
          by : (found : Option Row) → row_of (all_rows tables) row.no ≡ found → row.no < known → ⊥
          by None is low = has_come_before row there low is
          by (Some early) is low =
              let was = find_member (λ (it : Row). it.no == row.no) (all_rows tables) early is in
              let stood = stands_in tables early was.0 in
              let same = may.orderly.one_stream stood.cycle (length tables) early row
              (subst (λ (rows : List Row). Contains rows early) (sym (table_before tables table stood.cycle stood.early)) stood.there) (in_last row there)
              (eqb-true early.no row.no was.1) in
              let led : leads_row m l early ≡ true =
              ap (λ (tree : List Hop). list_any (λ (next : ℕ). next == l) (links_in (filter (λ (hop : Hop). same_ingress hop.from (Some m)) tree))) same.tree
              ∙ does in
              both_ways (leads (all_rows tables) m l) none (member_any (leads_row m l) (all_rows tables) early was.0 led)

      -- so if none of all rows leads, the new ones lead if and only if the table's do
      same : leads (all_rows tables) m l ≡ false → list_any (by_tree l m) (new_rows known table) ≡ list_any (leads_row m l) table
      same none = same_test (list_any (by_tree l m) (new_rows known table)) (list_any (leads_row m l) table)
          (λ some.
          let one = any_member (by_tree l m) (new_rows known table) some in
          let there = (contains_from_filter (λ (it : Row). nat_le known it.no) table one.0 one.1).0 in
          member_any (leads_row m l) table one.0 there (of_tree one.0 there ∙ one.2))
          (λ some.
          let one = any_member (leads_row m l) table some in
          let new = contains_filter (λ (it : Row). nat_le known it.no) table one.0 one.1 (le-leb known one.0.no (earlier none one.0 one.1 one.2)) in
          member_any (by_tree l m) (new_rows known table) one.0 new (sym (of_tree one.0 one.1) ∙ one.2))

      -- whether one of all rows leads or not
      either : (b : Bool) → leads (all_rows tables) m l ≡ b →
          (leads (all_rows tables) m l || list_any (by_tree l m) (new_rows known table)) ≡ (leads (all_rows tables) m l || list_any (leads_row m l) table)
      either true is =
          ap (λ (x : Bool). x || list_any (by_tree l m) (new_rows known table)) is ∙ sym (ap (λ (x : Bool). x || list_any (leads_row m l) table) is)
      either false is = ap (λ (x : Bool). leads (all_rows tables) m l || x) (same is)

  -- with the new rows a link knows those of all tables
  pub knows_with : (l : ℕ) (before after : Leads) → KnowsRows l tables before → length before.rows.items ≤ known →
      LearnsAll l (new_rows known table) before after → KnowsRows l (tables ++ table ∷ []) after
  knows_with l before after knows room learn = record {
    rows = λ number.
        rows_learned l known (new_rows known table) before after learn new_after room number
        ∙ ap (found_or l (row_of (new_rows known table) number)) (knows.rows number)
        ∙ row_with l number
        ∙ ap (by_row l) (sym (find-append (λ (row : Row). row.no == number) (all_rows tables) table))
        ∙ ap (λ (rows : List Row). by_row l (row_of rows number)) (sym (all_rows_more tables table));
    needs = λ m.
        needs_learned l m (new_rows known table) before after learn
        ∙ ap (λ (b : Bool). b || list_any (λ (row : Row). is_link (by_hops l row.tree.items) m) (new_rows known table)) (knows.needs m)
        ∙ leads_with l m
        ∙ ap (λ (rows : List Row). leads rows m l) (sym (all_rows_more tables table));
    fits = fits_learned l known (new_rows known table) before after learn new_after room knows.fits;
  }
