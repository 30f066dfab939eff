-- Tables: a header, followed by rows in order of instant. Rows count from 1.
use Rattle.std.specs.Prelude.{ℕ, ◌≡◌, ◌≢◌, ◌+◌, List, [], ◌∷◌, Bool, true, false, Option, Some, None, Result, Ok, Err, if◌then◌else◌, length, nat_lt}
use Rattle.std.specs.Cmp.Lexicographic.{pointwise}
use Rattle.std.specs.Str.{bytes_eq}
use Rattle.csv.specs.declared.reader.Reader.{Reader}
use Rattle.cqf_report.specs.Records.{Fields, StillGives, records_of}
use Rattle.cqf_report.specs.declared.tables.TableFault.{TableFault}
use Rattle.cqf_report.specs.declared.tables.TableFault.TheVariants.{BadHeader, TooMany, BadRow, OutOfOrder, Memory}

-- the fields are exactly those of the header
abbrev pub is_header : Fields → Fields → Bool
is_header names fields = pointwise bytes_eq names fields

-- the four fields of a record with four fields, and the five of a record with five
abbrev pub four_of : Fields → Option (List ℕ × List ℕ × List ℕ × List ℕ)
four_of (first ∷ second ∷ third ∷ fourth ∷ []) = Some (first, second, third, fourth)
four_of _ = None

abbrev pub five_of : Fields → Option (List ℕ × List ℕ × List ℕ × List ℕ × List ℕ)
five_of (first ∷ second ∷ third ∷ fourth ∷ fifth ∷ []) = Some (first, second, third, fourth, fifth)
five_of _ = None

-- what a record of four fields writes, and a record of five. A record with another number of fields writes nothing
abbrev pub in_four : {A : Type 0} → (List ℕ → List ℕ → List ℕ → List ℕ → Option A) → Fields → Option A
in_four read (first ∷ second ∷ third ∷ fourth ∷ []) = read first second third fourth
in_four read _ = None

abbrev pub in_five : {A : Type 0} → (List ℕ → List ℕ → List ℕ → List ℕ → List ℕ → Option A) → Fields → Option A
in_five read (first ∷ second ∷ third ∷ fourth ∷ fifth ∷ []) = read first second third fourth fifth
in_five read _ = None

-- a row before the others
abbrev pub with_row : {A : Type 0} → A → Result (List A) TableFault → Result (List A) TableFault
with_row row (Ok rows) = Ok (row ∷ rows)
with_row row (Err fault) = Err fault

-- the row with this number, if it has the form of a row and isn't before an instant, followed by the others, which may not be before this row
abbrev pub row_then : {A : Type 0} → (A → ℕ) → ℕ → ℕ → Option A → (ℕ → Result (List A) TableFault) → Result (List A) TableFault
row_then instant number before None others = Err (BadRow number)
row_then instant number before (Some row) others =
    if nat_lt (instant row) before then Err (OutOfOrder number) else with_row row (others (instant row))

-- the rows from this number on, or the first fault
abbrev pub rows_from : {A : Type 0} → ℕ → (Fields → Option A) → (A → ℕ) → ℕ → ℕ → List Fields → Result (List A) TableFault
rows_from most read instant number before [] = Ok []
rows_from most read instant number before (fields ∷ rows) =
    if nat_lt most number then Err TooMany
    else row_then instant number before (read fields) (λ last. rows_from most read instant (number + 1) last rows)

-- the rows after the header, or the first fault
abbrev pub rows_under : {A : Type 0} → ℕ → Fields → (Fields → Option A) → (A → ℕ) → List Fields → Result (List A) TableFault
rows_under most names read instant [] = Err BadHeader
rows_under most names read instant (first ∷ rows) =
    if is_header names first then rows_from most read instant 1 0 rows else Err BadHeader

-- the rows of a text with this header, or its first fault
abbrev pub table_read : {A : Type 0} → ℕ → Fields → (Fields → Option A) → (A → ℕ) → List ℕ → Result (List A) TableFault
table_read most names read instant text = rows_under most names read instant (records_of text)

-- the fault is the table's first fault. Nothing is claimed about the fault `Memory`
abbrev pub IsFaultOf : {A : Type 0} → Result (List A) TableFault → TableFault → Type 0
IsFaultOf table fault = fault ≢ Memory → table ≡ Err fault

-- the effect of taking the next row of a table with `columns` columns: there is no further row; or the row is taken, and the reader still
-- returns the others; or the result is the first fault
abbrev pub TakesNext : {A R : Type 0} → ℕ → ℕ → (Fields → Option A) → (A → ℕ) → (R → Option (List ℕ)) → ℕ → ℕ → List Fields → Reader R
    → Result (Option A) TableFault → Type 0
TakesNext most columns read instant remaining number before rows after (Ok None) = rows ≡ []
TakesNext most columns read instant remaining number before rows after (Ok (Some row)) =
    (rest : List Fields) × StillGives remaining (Some columns) after rest
    × (rows_from most read instant number before rows ≡ with_row row (rows_from most read instant (number + 1) (instant row) rest))
TakesNext most columns read instant remaining number before rows after (Err fault) = IsFaultOf (rows_from most read instant number before rows) fault

-- the rows begin with the header
abbrev pub has_header : Fields → List Fields → Bool
has_header names [] = false
has_header names (first ∷ rows) = is_header names first

-- the header was taken, and the reader still returns the rows after it
pub record TakesHeader {R : Type 0} (remaining : R → Option (List ℕ)) (names : Fields) (rows : List Fields) (after : Reader R) : Type 0 where
  pub first : Fields
  pub rest : List Fields
  pub begins : rows ≡ first ∷ rest
  pub named : is_header names first ≡ true
  pub goes_on : StillGives remaining (Some (length names)) after rest
