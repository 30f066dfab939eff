-- Properties of every table that is read: what holds for each row that may be read, the number of rows, and the order of instants.
use Rattle.std.proofs.Common.{◌≡◌, ◌≤◌, ◌+◌, ◌-◌, ◌&&◌, ℕ, Bool, true, false, List, [], ◌∷◌, All, AllPairs, Option, Some, None, Result, Ok, Err, if◌then◌else◌}
use Rattle.std.proofs.Common.{nat_lt, nat_le, length, refl, subst, sym, ap, arith}
use Rattle.std.proofs.lemmas.Bool.{and_parts, leb-true}
use Rattle.std.proofs.lemmas.Grind.{common_steps}
use Rattle.std.proofs.lemmas.List.Elements.{All-cons, All-nil}
use Rattle.std.proofs.lemmas.List.Kept.{AllPairs-cons}
use Rattle.std.specs.Option.{option_and_then}
use Rattle.cqf_report.specs.Records.{Fields}
use Rattle.cqf_report.specs.Table.{is_header, row_then, rows_from, rows_under, with_row}
use Rattle.cqf_report.specs.declared.tables.TableFault.{TableFault}
use Rattle.cqf_report.specs.declared.tables.TableFault.TheVariants.{BadHeader, BadRow, OutOfOrder, TooMany}
use Rattle.cqf_text.specs.Decimal.{decimal_in, decimal_value, in_range}

-- what holds for each row that is read holds for each row of a table
module _ {A : Type 0} (P : A → Type 0) (most : ℕ) (read : Fields → Option A) (instant : A → ℕ) (each : (fields : Fields) (row : A) → read fields ≡ Some row → P row) where
  -- one more row with the property
  cons-each : (row : A) (others : Result (List A) TableFault) (items : List A) → P row → ((rest : List A) → others ≡ Ok rest → All P rest) →
      with_row row others ≡ Ok items → All P items
  cons-each row (Ok others) items first more e =
      let same : row ∷ others ≡ items = cc in
      subst (All P) same (All-cons P row others first (more others refl))
  cons-each row (Err fault) items first more e = cc

  -- one more record
  row-each : (number before : ℕ) (fields : Fields) (o : Option A) (others : ℕ → Result (List A) TableFault) (items : List A) → read fields ≡ o →
      ((last : ℕ) (rest : List A) → others last ≡ Ok rest → All P rest)
      → row_then instant number before o others ≡ Ok items → All P items
  row-each number before fields None others items is more e = cc
  row-each number before fields (Some row) others items is more e = by (nat_lt (instant row) before) e
    where
      by : (b : Bool) → (if b then Err (OutOfOrder number) else with_row row (others (instant row))) ≡ Ok items → All P items
      by true e = cc
      by false e = cons-each row (others (instant row)) items (each fields row is) (more (instant row)) e

  -- what holds of each row holds of the rows of a text
  pub rows-each : (number before : ℕ) (rows : List Fields) (items : List A) → rows_from most read instant number before rows ≡ Ok items → All P items
  rows-each number before [] items e = let same : [] ≡ items = cc in subst (All P) same (All-nil P)
  rows-each number before (fields ∷ rows) items e =
      by (nat_lt most number) (row-each number before fields (read fields) (λ last. rows_from most read instant (number + 1) last rows) items refl
      (λ last rest. rows-each (number + 1) last rows rest)) e
    where
      by : (b : Bool) → (row_then instant number before (read fields) (λ last. rows_from most read instant (number + 1) last rows) ≡ Ok items → All P items)
          → (if b then Err TooMany else row_then instant number before (read fields) (λ last. rows_from most read instant (number + 1) last rows)) ≡ Ok items →
          All P items
      by true more e = cc
      by false more e = more e

  -- and for those of a table
  pub table-each : (names : Fields) (rows : List Fields) (items : List A) → rows_under most names read instant rows ≡ Ok items → All P items
  table-each names [] items e = cc
  table-each names (first ∷ rows) items e = by (is_header names first) e
    where
      by : (b : Bool) → (if b then rows_from most read instant 1 0 rows else Err BadHeader) ≡ Ok items → All P items
      by true e = rows-each 1 0 rows items e
      by false e = cc

-- a number that is read is in its range
within-range : (least most m n : ℕ) → in_range least most m ≡ Some n → (least ≤ n) × (n ≤ most)
within-range least most m n e = by (nat_le least m && nat_le m most) refl e
  where
    -- a number that is returned because it is in the range is in it
    by : (b : Bool) → (nat_le least m && nat_le m most) ≡ b → (if b then Some m else None) ≡ Some n → (least ≤ n) × (n ≤ most)
    by true holds e =
        let parts : (nat_le least m ≡ true) × (nat_le m most ≡ true) = and_parts (nat_le least m) (nat_le m most) holds in
        let same : m ≡ n = cc in
        let InRange : ℕ → Type 0 = λ k. (least ≤ k) × (k ≤ most) in
        subst InRange same (leb-true least m parts.0, leb-true m most parts.1)
    by false holds e = cc

-- a number that is read is in its range
pub decimal_in-range : (least most : ℕ) (digits : List ℕ) (n : ℕ) → decimal_in least most digits ≡ Some n → (least ≤ n) × (n ≤ most)
decimal_in-range least most digits n e = by (decimal_value digits) e
  where
    -- the number that the digits write, if it is returned, is in the range
    by : (o : Option ℕ) → option_and_then (in_range least most) o ≡ Some n → (least ≤ n) × (n ≤ most)
    by None e = cc
    by (Some m) e = within-range least most m n e

-- a fault isn't a list of rows
no_rows : {A : Type 0} (fault : TableFault) (rows : List A) → ¬ (Err fault ≡ Ok rows)
no_rows fault rows h = cc

-- the result for no records has no rows
nil_ok : {A : Type 0} (rows : List A) → (let read : Result (List A) TableFault = Ok [] in read ≡ Ok rows) → [] ≡ rows
nil_ok rows h = cc

-- one more row increases the number by one
with_row-few : {A : Type 0} (row : A) (others : Result (List A) TableFault) (rows : List A) (most : ℕ) →
    ((rest : List A) → others ≡ Ok rest → length rest ≤ most) → with_row row others ≡ Ok rows → length rows ≤ most + 1
with_row-few row (Ok rest) rows most few h =
    let same : row ∷ rest ≡ rows = cc in
    let short : length rest ≤ most = few rest refl in
    let count : length rows ≡ length (row ∷ rest) = ap length (sym same) in
    omega (arith, count, short)
with_row-few row (Err fault) rows most few h = absurd (no_rows fault rows h)

-- the same if the row isn't early
late-few : {A : Type 0} (number : ℕ) (row : A) (others : Result (List A) TableFault) (rows : List A) (most : ℕ) (late : Bool) →
    ((rest : List A) → others ≡ Ok rest → length rest ≤ most) → (if late then Err (OutOfOrder number) else with_row row others) ≡ Ok rows →
    length rows ≤ most + 1
late-few number row others rows most true few h = absurd (no_rows (OutOfOrder number) rows h)
late-few number row others rows most false few h = with_row-few row others rows most few h

-- the same if it is a row
row_then-few : {A : Type 0} (instant : A → ℕ) (number before : ℕ) (row : Option A) (others : ℕ → Result (List A) TableFault) (rows : List A) (most : ℕ) →
    ((last : ℕ) (rest : List A) → others last ≡ Ok rest → length rest ≤ most) → row_then instant number before row others ≡ Ok rows → length rows ≤ most + 1
row_then-few instant number before None others rows most few h = absurd (no_rows (BadRow number) rows h)
row_then-few instant number before (Some row) others rows most few h =
    late-few number row (others (instant row)) rows most (nat_lt (instant row) before) (few (instant row)) h

-- the same if there are not too many rows
unless-few : {A : Type 0} (most : ℕ) (number : ℕ) (read : Result (List A) TableFault) (rows : List A) (many : Bool) → nat_lt most number ≡ many →
    (number ≤ most → read ≡ Ok rows → length rows + number ≤ most + 1) → (if many then Err TooMany else read) ≡ Ok rows → length rows + number ≤ most + 1
unless-few most number read rows true test few h = absurd (no_rows TooMany rows h)
unless-few most number read rows false test few h =
    let within : number ≤ most = grind (arith, common_steps) in few within h

-- so there are at most `most` rows
rows_from-few : {A : Type 0} (most : ℕ) (read : Fields → Option A) (instant : A → ℕ) (number before : ℕ) (records : List Fields) (rows : List A) → number ≤ most + 1 →
    rows_from most read instant number before records ≡ Ok rows → length rows + number ≤ most + 1
rows_from-few {A} most read instant number before [] rows low h =
    let none : length rows ≡ 0 = ap length (sym (nil_ok rows h)) in omega (arith, none)
rows_from-few most read instant number before (fields ∷ records) rows low h =
    unless-few most number _ rows (nat_lt most number) refl
    (λ within e.
    let rest_few : length rows ≤ (most - number) + 1 =
    row_then-few instant number before (read fields) (λ last. rows_from most read instant (number + 1) last records) rows (most - number)
    (λ last rest r. let more : length rest + (number + 1) ≤ most + 1 = rows_from-few most read instant (number + 1) last records rest (omega arith) r in
    omega (arith, more)) e in
    omega (arith, rest_few)) h

-- the same after the right header
named-few : {A : Type 0} (most : ℕ) (read : Fields → Option A) (instant : A → ℕ) (named : Bool) (records : List Fields) (rows : List A) →
    (if named then rows_from most read instant 1 0 records else Err BadHeader) ≡ Ok rows → length rows ≤ most
named-few most read instant true records rows h = let few : length rows + 1 ≤ most + 1 = rows_from-few most read instant 1 0 records rows (omega arith) h in
    omega (arith, few)
named-few most read instant false records rows h = absurd (no_rows BadHeader rows h)

-- a table has no more rows than it may have
pub rows_under-few : {A : Type 0} (most : ℕ) (names : Fields) (read : Fields → Option A) (instant : A → ℕ) (records : List Fields) (rows : List A) →
    rows_under most names read instant records ≡ Ok rows → length rows ≤ most
rows_under-few most names read instant [] rows h = absurd (no_rows BadHeader rows h)
rows_under-few most names read instant (first ∷ records) rows h = named-few most read instant (is_header names first) records rows h

-- rows whose instants are in order, from an instant on
record AreInOrder {A : Type 0} (instant : A → ℕ) (before : ℕ) (rows : List A) : Type 0 where
  from_there : All (λ (row : A). before ≤ instant row) rows
  in_order : AllPairs (λ (a b : A). instant a ≤ instant b) rows

-- no rows are in order
AreInOrder-nil : {A : Type 0} (instant : A → ℕ) (before : ℕ) → AreInOrder instant before []
AreInOrder-nil {A} instant before = record {
  from_there = All-nil (λ (row : A). before ≤ instant row);
  in_order = λ i j d lower inside. absurd (omega arith);
}

-- a row that isn't early, before rows in order, is in order
AreInOrder-cons : {A : Type 0} (instant : A → ℕ) (before : ℕ) (row : A) (rows : List A) → before ≤ instant row → AreInOrder instant (instant row) rows →
    AreInOrder instant before (row ∷ rows)
AreInOrder-cons {A} instant before row rows h more = record {
  from_there = All-cons (λ (a : A). before ≤ instant a) row rows h (λ k d inside. omega (arith, more.from_there k d inside));
  in_order = AllPairs-cons (λ (a b : A). instant a ≤ instant b) row rows more.from_there more.in_order;
}

-- a row before the rows that were read
with_row-ok : {A : Type 0} (row : A) (others : Result (List A) TableFault) (rows : List A) → with_row row others ≡ Ok rows → (rest : List A) ×
    (others ≡ Ok rest) × (row ∷ rest ≡ rows)
with_row-ok row (Ok rest) rows h = (rest, refl, cc)
with_row-ok row (Err fault) rows h = absurd (no_rows fault rows h)

-- a row that isn't early keeps the order
row-in_order : {A : Type 0} (instant : A → ℕ) (before number : ℕ) (row : A) (others : Result (List A) TableFault) (rows : List A) (late : Bool) →
    nat_lt (instant row) before ≡ late → ((rest : List A) → others ≡ Ok rest → AreInOrder instant (instant row) rest) →
    (if late then Err (OutOfOrder number) else with_row row others) ≡ Ok rows → AreInOrder instant before rows
row-in_order instant before number row others rows true test more h = absurd (no_rows (OutOfOrder number) rows h)
row-in_order {A} instant before number row others rows false test more h =
    let read = with_row-ok row others rows h in
    let not_before : before ≤ instant row = grind (arith, common_steps) in
    subst (λ (xs : List A). AreInOrder instant before xs) read.2 (AreInOrder-cons instant before row read.0 not_before (more read.0 read.1))

-- the same if it is a row
row_then-in_order : {A : Type 0} (instant : A → ℕ) (before number : ℕ) (row : Option A) (others : ℕ → Result (List A) TableFault) (rows : List A) →
    ((last : ℕ) (rest : List A) → others last ≡ Ok rest → AreInOrder instant last rest) → row_then instant number before row others ≡ Ok rows →
    AreInOrder instant before rows
row_then-in_order instant before number None others rows more h = absurd (no_rows (BadRow number) rows h)
row_then-in_order instant before number (Some row) others rows more h =
    row-in_order instant before number row (others (instant row)) rows (nat_lt (instant row) before) refl (more (instant row)) h

-- the same if there are not too many rows
unless-in_order : {A : Type 0} (instant : A → ℕ) (before : ℕ) (read : Result (List A) TableFault) (rows : List A) (many : Bool) →
    (read ≡ Ok rows → AreInOrder instant before rows) → (if many then Err TooMany else read) ≡ Ok rows → AreInOrder instant before rows
unless-in_order instant before read rows true ordered h = absurd (no_rows TooMany rows h)
unless-in_order instant before read rows false ordered h = ordered h

-- so the rows are in order
rows_from-in_order : {A : Type 0} (most : ℕ) (read : Fields → Option A) (instant : A → ℕ) (number before : ℕ) (records : List Fields) (rows : List A) →
    rows_from most read instant number before records ≡ Ok rows → AreInOrder instant before rows
rows_from-in_order {A} most read instant number before [] rows h =
    subst (λ (xs : List A). AreInOrder instant before xs) (nil_ok rows h) (AreInOrder-nil instant before)
rows_from-in_order most read instant number before (fields ∷ records) rows h =
    unless-in_order instant before _ rows (nat_lt most number)
    (row_then-in_order instant before number (read fields) (λ last. rows_from most read instant (number + 1) last records) rows
    (λ last rest e. rows_from-in_order most read instant (number + 1) last records rest e)) h

-- the same after the right header
named-in_order : {A : Type 0} (most : ℕ) (read : Fields → Option A) (instant : A → ℕ) (named : Bool) (records : List Fields) (rows : List A) →
    (if named then rows_from most read instant 1 0 records else Err BadHeader) ≡ Ok rows → AreInOrder instant 0 rows
named-in_order most read instant true records rows h = rows_from-in_order most read instant 1 0 records rows h
named-in_order most read instant false records rows h = absurd (no_rows BadHeader rows h)

-- no row of a table is before an earlier one
pub rows_under-in_order : {A : Type 0} (most : ℕ) (names : Fields) (read : Fields → Option A) (instant : A → ℕ) (records : List Fields) (rows : List A) →
    rows_under most names read instant records ≡ Ok rows → AllPairs (λ (a b : A). instant a ≤ instant b) rows
rows_under-in_order most names read instant [] rows h = absurd (no_rows BadHeader rows h)
rows_under-in_order most names read instant (first ∷ records) rows h = (named-in_order most read instant (is_header names first) records rows h).in_order
