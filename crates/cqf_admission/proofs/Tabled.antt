-- Tables of held streams whose first rows are found by the numbers of their names.
use Rattle.std.proofs.Common.{◌≡◌, ◌∙◌, ◌<◌, ◌≤◌, ◌++◌, ◌∷◌, [], ℕ, Bool, List, Some, true, false, ap, arith, cond, count_by, filter, inl, inr, length}
use Rattle.std.proofs.Common.{length-append, map, nat_lt, refl, subst, suc, sym, take}
use Rattle.std.specs.Prelude.{◌==◌, ◌&&◌, All, AllPairs, Contains, if◌then◌else◌, not}
use Rattle.std.proofs.lemmas.Bool.{cases_lt, le-ltb, lt-ltb}
use Rattle.std.proofs.lemmas.List.{length-map, take_all}
use Rattle.std.proofs.lemmas.List.Elements.{All-contains, Contains-append_cases}
use Rattle.std.proofs.lemmas.List.Sums.{count_by-le-length, sum_by-cons}
use Rattle.cqf_lists.proofs.Members.{all_from_members, contains_cases, contains_from_filter, contains_from_map, contains_here, contains_later, contains_none, contains_one}
use Rattle.cqf_lists.proofs.Pairs.{pairs_head, pairs_tail}
use Rattle.cqf_model.specs.declared.topology.Row.{Row}
use Rattle.cqf_model.specs.Domain.{Domain}
use Rattle.cqf_model.specs.History.{Recorded, held_in, next_number, seals, streams_of}
use Rattle.cqf_model.specs.Table.{is_held}
use Rattle.cqf_laws_history.specs.StateLaws.{ended_row}
use Rattle.cqf_laws_history.proofs.Growth.{streams_after, streams_before}
use Rattle.cqf_laws_history.proofs.Indices.{admitted_at, admitted_before, with_end, withdrawn_before}
use Rattle.cqf_admission.specs.Holdings.{Standing}
use Rattle.cqf_admission.specs.Numbers.{AreNumbered, IsNumbered, number_in}
use Rattle.cqf_admission.specs.State.{stands_in}
use Rattle.cqf_admission.specs.Streams.{stand_of}
use Rattle.cqf_admission.specs.Tabling.{AreTablesOf, IsNoted, Tables}

-- if the first number isn't below, none of the others is
none_below : (below : ℕ) (row : Row) (rows : List Row) → below ≤ row.no → AllPairs (λ (a b : Row). a.no < b.no) (row ∷ rows) →
    count_by (λ (other : Row). nat_lt other.no below) rows ≡ 0
none_below below row [] high ascending = refl
none_below below row (next ∷ rows) high ascending =
    let above : row.no < next.no = pairs_head (λ (a b : Row). a.no < b.no) row (next ∷ rows) next ascending (contains_here next rows) in
    let rest = none_below below next rows (omega (arith, high, above)) (pairs_tail (λ (a b : Row). a.no < b.no) row (next ∷ rows) ascending) in
    let none : cond {A = ℕ} (nat_lt next.no below) 1 0 ≡ 0 = ap (λ (b : Bool). cond {A = ℕ} b 1 0) (le-ltb next.no below (omega (arith, high, above))) in
    omega (arith, sum_by-cons (λ (other : Row). cond {A = ℕ} (nat_lt other.no below) 1 0) next rows, none, rest)

-- in rows by number, those with numbers below a bound come first
first_below : (below : ℕ) (rows : List Row) (row : Row) → AllPairs (λ (a b : Row). a.no < b.no) rows →
    Contains (take (count_by (λ (other : Row). nat_lt other.no below) rows) rows) row → Contains rows row × (row.no < below)
first_below below [] row ascending c = absurd (contains_none row c)
first_below below (next ∷ rows) row ascending c = elim (cases_lt next.no below) [
  | inl low ↦ (
      let many : count_by (λ (other : Row). nat_lt other.no below) (next ∷ rows) ≡ suc (count_by (λ (other : Row). nat_lt other.no below) rows) =
      (let one : cond {A = ℕ} (nat_lt next.no below) 1 0 ≡ 1 = ap (λ (b : Bool). cond {A = ℕ} b 1 0) (lt-ltb next.no below low) in
      omega (arith, sum_by-cons (λ (other : Row). cond {A = ℕ} (nat_lt other.no below) 1 0) next rows, one)) in
      elim (contains_cases next (take (count_by (λ (other : Row). nat_lt other.no below) rows) rows) row
      (subst (λ (n : ℕ). Contains (take n (next ∷ rows)) row) many c)) [
        | inl here ↦ (subst (Contains (next ∷ rows)) here (contains_here next rows), subst (λ (x : Row). x.no < below) here low)
        | inr later ↦ (
            let rest = first_below below rows row (pairs_tail (λ (a b : Row). a.no < b.no) next rows ascending) later in
            (contains_later next rows row rest.0, rest.1))
      ])
  | inr high ↦ (
      let none : count_by (λ (other : Row). nat_lt other.no below) (next ∷ rows) ≡ 0 =
      (let no_one : cond {A = ℕ} (nat_lt next.no below) 1 0 ≡ 0 = ap (λ (b : Bool). cond {A = ℕ} b 1 0) (le-ltb next.no below high) in
      omega (arith, sum_by-cons (λ (other : Row). cond {A = ℕ} (nat_lt other.no below) 1 0) next rows, no_one, none_below below next rows high ascending)) in
      absurd (contains_none row (subst (λ (n : ℕ). Contains (take n (next ∷ rows)) row) none c)))
]

pub below_are_numbered : (numbers : List (List ℕ × ℕ)) (below : ℕ) (rows : List Row) → AllPairs (λ (a b : Row). a.no < b.no) rows →
    ((row : Row) → Contains rows row → row.no < below → IsNumbered numbers row) →
    AreNumbered numbers (count_by (λ (row : Row). nat_lt row.no below) rows) rows
below_are_numbered numbers below rows ascending each = record {
  within = count_by-le-length (λ (row : Row). nat_lt row.no below) rows;
  each = all_from_members (IsNumbered numbers) (take (count_by (λ (row : Row). nat_lt row.no below) rows) rows)
      (λ row c. let one = first_below below rows row ascending c in each row one.0 one.1);
}

-- with the numbers of all held rows, those of all accepted streams are found
pub renumbered : (d : Domain) (entries : List Recorded) (tables : Tables) (numbers : List (List ℕ × ℕ)) (rows : List Row) (accepted : ℕ) →
    held_in d entries (seals entries) ≡ rows → next_number d entries ≡ accepted → AreNumbered numbers (length rows) rows → AreTablesOf d entries tables →
    AreTablesOf d entries (record tables { numbers = numbers; below = accepted })
renumbered d entries tables numbers rows accepted held next all are = record {
  current = are.current;
  numbered = λ row c low.
      let whole : All (IsNumbered numbers) rows = subst (λ (rs : List Row). All (IsNumbered numbers) rs) (take_all (length rows) rows (omega arith)) all.each in
      All-contains (IsNumbered numbers) rows row whole (subst (λ (rs : List Row). Contains rs row) held c);
  accepted = omega (arith, next);
}

-- ---- one more call

-- it doesn't reduce the number of streams
more_streams : (d : Domain) (entries : List Recorded) (e : Recorded) → next_number d entries ≤ next_number d (entries ++ e ∷ [])
more_streams d entries e =
    let whole = entries ++ e ∷ [] in
    let old = admitted_before d whole (length entries) in
    omega (
      arith,
      ap (λ (rows : List Row). length rows) (streams_before d entries e),
      length-map old (with_end (withdrawn_before whole (length entries))),
      ap (λ (rows : List Row). length rows) (streams_after d entries e),
      length-map (old ++ admitted_at d whole (length entries)) (with_end (withdrawn_before whole (suc (length entries)))),
      length-append old (admitted_at d whole (length entries)),
    )

-- if each held row with a number below was held with its name and number, tables are made from the same data
pub tables_kept : (d : Domain) (entries : List Recorded) (e : Recorded) (before after : Tables) → AreTablesOf d entries before → after.numbers ≡ before.numbers →
    after.below ≡ before.below →
    (after.is_current ≡ true → after.listed ≡ held_in d (entries ++ e ∷ []) (seals (entries ++ e ∷ []))) →
    ((row : Row) → Contains (held_in d (entries ++ e ∷ []) (seals (entries ++ e ∷ []))) row → row.no < before.below →
    (old : Row) × Contains (held_in d entries (seals entries)) old × (old.no ≡ row.no) × (old.name ≡ row.name)) →
    AreTablesOf d (entries ++ e ∷ []) after
tables_kept d entries e before after are numbers below current were = record {
  current = current;
  numbered = λ row c low.
      let was = were row c (omega (arith, low, below)) in
      ap (λ (list : List (List ℕ × ℕ)). number_in list row.name) numbers ∙ ap (number_in before.numbers) (sym was.3)
      ∙ are.numbered was.0 was.1 (omega (arith, low, below, was.2)) ∙ ap Some was.2;
  accepted = omega (arith, below, are.accepted, more_streams d entries e);
}

-- after a change the list isn't current
never_current : (current : Bool) → (current && not true) ≡ true → ⊥
never_current true h = absurd cc
never_current false h = absurd cc

-- if the same rows are held
pub tables_same : (d : Domain) (entries : List Recorded) (e : Recorded) (before after : Tables) → AreTablesOf d entries before →
    IsNoted before after false → held_in d (entries ++ e ∷ []) (seals (entries ++ e ∷ [])) ≡ held_in d entries (seals entries) →
    AreTablesOf d (entries ++ e ∷ []) after
tables_same d entries e before after are noted held =
    tables_kept d entries e before after are noted.numbers noted.below
    (λ now. noted.listed ∙ are.current (was before.is_current (sym noted.current ∙ now)) ∙ sym held)
    (λ row c low. (row, subst (λ (rs : List Row). Contains rs row) held c, refl, refl))
  where
    was : (current : Bool) → (current && not false) ≡ true → current ≡ true
    was true h = refl
    was false h = absurd cc

-- if one more is held after the others, with a new number
pub tables_more : (d : Domain) (entries : List Recorded) (e : Recorded) (before after : Tables) (new : Row) → AreTablesOf d entries before →
    IsNoted before after true → held_in d (entries ++ e ∷ []) (seals (entries ++ e ∷ [])) ≡ held_in d entries (seals entries) ++ new ∷ [] →
    next_number d entries ≤ new.no → AreTablesOf d (entries ++ e ∷ []) after
tables_more d entries e before after new are noted held late =
    tables_kept d entries e before after are noted.numbers noted.below
    (λ now. absurd (never_current before.is_current (sym noted.current ∙ now)))
    (λ row c low. elim (Contains-append_cases (held_in d entries (seals entries)) (new ∷ []) row (subst (λ (rs : List Row). Contains rs row) held c)) [
      | inl old ↦ (row, old, refl, refl)
      | inr one ↦ absurd (omega (arith, low, late, are.accepted, ap (λ (x : Row). x.no) (contains_one new row one)))
    ])

-- if the stream with a number ends
pub tables_ended : (d : Domain) (entries : List Recorded) (e : Recorded) (before after : Tables) (number cycle : ℕ) → AreTablesOf d entries before →
    IsNoted before after true → held_in d (entries ++ e ∷ []) (seals (entries ++ e ∷ [])) ≡ map (ended_row number cycle) (held_in d entries (seals entries)) →
    AreTablesOf d (entries ++ e ∷ []) after
tables_ended d entries e before after number cycle are noted held =
    tables_kept d entries e before after are noted.numbers noted.below
    (λ now. absurd (never_current before.is_current (sym noted.current ∙ now)))
    (λ row c low.
    let old = contains_from_map (ended_row number cycle) (held_in d entries (seals entries)) row (subst (λ (rs : List Row). Contains rs row) held c) in
    (old.0, old.1, sym (by_flag old.0 (old.0.no == number)).0 ∙ ap (λ (x : Row). x.no) old.2, sym (by_flag old.0 (old.0.no == number)).1 ∙ ap (λ (x : Row). x.name) old.2))
  where
    by_flag : (row : Row) (b : Bool) → ((if b then record row { withdrawn = Some (record { 0 = cycle }) } else row).no ≡ row.no)
        × ((if b then record row { withdrawn = Some (record { 0 = cycle }) } else row).name ≡ row.name)
    by_flag row true = (refl, refl)
    by_flag row false = (refl, refl)

-- if some are released
pub tables_less : (d : Domain) (entries : List Recorded) (e : Recorded) (before after : Tables) (ends : Bool) (cycle : ℕ) → AreTablesOf d entries before →
    IsNoted before after ends → held_in d (entries ++ e ∷ []) (seals (entries ++ e ∷ [])) ≡ filter (λ (row : Row). is_held row cycle) (held_in d entries (seals entries)) →
    (ends ≡ false → held_in d (entries ++ e ∷ []) (seals (entries ++ e ∷ [])) ≡ held_in d entries (seals entries)) →
    AreTablesOf d (entries ++ e ∷ []) after
tables_less d entries e before after true cycle are noted held stays =
    tables_kept d entries e before after are noted.numbers noted.below
    (λ now. absurd (never_current before.is_current (sym noted.current ∙ now)))
    (λ row c low. (
      row,
      (contains_from_filter (λ (x : Row). is_held x cycle) (held_in d entries (seals entries)) row
          (subst (λ (rs : List Row). Contains rs row) held c)).0,
      refl,
      refl,
    ))
tables_less d entries e before after false cycle are noted held stays = tables_same d entries e before after are noted (stays refl)

-- if the streams agree, the held ones agree
pub held_alike : (d : Domain) (entries after : List Recorded) → stands_in d after ≡ stands_in d entries →
    held_in d after (seals after) ≡ held_in d entries (seals entries)
held_alike d entries after alike =
    sym (held_rows (seals after) (streams_of d after))
    ∙ ap (λ (ss : List Standing). map (λ (s : Standing). s.row) (filter (λ (s : Standing). s.held) ss)) alike
    ∙ held_rows (seals entries) (streams_of d entries)
  where
    held_rows : (cycle : ℕ) (rows : List Row) → map (λ (s : Standing). s.row) (filter (λ (s : Standing). s.held) (map (stand_of cycle) rows))
        ≡ filter (λ (row : Row). is_held row cycle) rows
    held_rows cycle [] = refl
    held_rows cycle (row ∷ rows) = by_flag (is_held row cycle) (held_rows cycle rows)
      where
        by_flag : (b : Bool) → map (λ (s : Standing). s.row) (filter (λ (s : Standing). s.held) (map (stand_of cycle) rows)) ≡ filter (λ (x : Row). is_held x cycle) rows →
            map (λ (s : Standing). s.row) (cond b (stand_of cycle row ∷ filter (λ (s : Standing). s.held) (map (stand_of cycle) rows))
            (filter (λ (s : Standing). s.held) (map (stand_of cycle) rows)))
            ≡ cond b (row ∷ filter (λ (x : Row). is_held x cycle) rows) (filter (λ (x : Row). is_held x cycle) rows)
        by_flag true rest = ap (λ (rs : List Row). row ∷ rs) rest
        by_flag false rest = rest
