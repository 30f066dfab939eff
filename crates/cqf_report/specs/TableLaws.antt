-- Which fault of a table's rows is reported, in terms of indexes alone, and in which order offers are read. Indexes count from 0, and
-- numbers of rows from 1.
use Rattle.std.specs.Prelude.{ℕ, ◌≡◌, ◌+◌, ◌≤◌, ◌<◌, List, Option, Some, None, Ok, MatchResult, length, slice_get}
use Rattle.cqf_model.specs.declared.frames.Offer.{Offer}
use Rattle.cqf_model.specs.Domain.{Domain}
use Rattle.cqf_laws_coverage.specs.Judged.{StandInOrder}
use Rattle.cqf_report.specs.Offers.{offers_of}
use Rattle.cqf_report.specs.Records.{Fields}
use Rattle.cqf_report.specs.Table.{rows_from}
use Rattle.cqf_report.specs.declared.tables.TableFault.{TableFault}
use Rattle.cqf_report.specs.declared.tables.TableFault.TheVariants.{BadHeader, TooMany, BadRow, OutOfOrder, Memory}

-- the record at this index writes this row
pub record Writes {A : Type 0} (read : Fields → Option A) (rows : List Fields) (index : ℕ) (row : A) : Type 0 where
  pub fields : Fields
  pub stands : slice_get rows index ≡ Some fields
  pub means : read fields ≡ Some row

-- the record at this index writes a row that isn't before the row of the record before it
pub record IsGood {A : Type 0} (read : Fields → Option A) (instant : A → ℕ) (rows : List Fields) (index : ℕ) : Type 0 where
  pub row : A
  pub writes : Writes read rows index row
  pub in_order : (k : ℕ) (earlier : A) → k + 1 ≡ index → Writes read rows k earlier → instant earlier ≤ instant row

-- each record before this index is good
abbrev pub AreGoodBefore : {A : Type 0} → (Fields → Option A) → (A → ℕ) → List Fields → ℕ → Type 0
AreGoodBefore read instant rows index = (k : ℕ) → k < index → IsGood read instant rows k

-- the record with this number is the first that isn't good, and it writes no row
pub record IsFirstBad {A : Type 0} (most : ℕ) (read : Fields → Option A) (instant : A → ℕ) (rows : List Fields) (number : ℕ) : Type 0 where
  pub index : ℕ
  pub numbered : number ≡ index + 1
  pub few : number ≤ most
  pub good_before : AreGoodBefore read instant rows index
  pub fields : Fields
  pub stands : slice_get rows index ≡ Some fields
  pub means_nothing : read fields ≡ None

-- the record with this number is the first that isn't good, and it writes a row before that of the previous record
pub record IsFirstBack {A : Type 0} (most : ℕ) (read : Fields → Option A) (instant : A → ℕ) (rows : List Fields) (number : ℕ) : Type 0 where
  pub index : ℕ
  pub numbered : number ≡ index + 2
  pub few : number ≤ most
  pub good_before : AreGoodBefore read instant rows (index + 1)
  pub row : A
  pub earlier : A
  pub writes : Writes read rows (index + 1) row
  pub writes_earlier : Writes read rows index earlier
  pub goes_back : instant row < instant earlier

-- there are more than `most` records, and the first `most` are good
pub record IsTooLong {A : Type 0} (most : ℕ) (read : Fields → Option A) (instant : A → ℕ) (rows : List Fields) : Type 0 where
  pub many : most < length rows
  pub good_before : AreGoodBefore read instant rows most

-- the fault is the first fault of the records
abbrev pub IsFirstFault : {A : Type 0} → ℕ → (Fields → Option A) → (A → ℕ) → List Fields → TableFault → Type 0
IsFirstFault most read instant rows BadHeader = ⊥
IsFirstFault most read instant rows TooMany = IsTooLong most read instant rows
IsFirstFault most read instant rows (BadRow number) = IsFirstBad most read instant rows number
IsFirstFault most read instant rows (OutOfOrder number) = IsFirstBack most read instant rows number
IsFirstFault most read instant rows Memory = ⊥

-- if there are at most `most` records and each is good, they are read; otherwise their first fault is reported
abbrev pub WritesFirst : {A : Type 0} → ℕ → (Fields → Option A) → (A → ℕ) → List Fields → Type 0
WritesFirst most read instant rows = MatchResult (rows_from most read instant 1 0 rows)
    (λ items. (length rows ≤ most) × AreGoodBefore read instant rows (length rows))
    (λ fault. IsFirstFault most read instant rows fault)

-- the offers that a text writes are in order of instant
abbrev pub ReadInOrder : Type 0
ReadInOrder = (d : Domain) (text : List ℕ) (offers : List Offer) → offers_of d text ≡ Ok offers → StandInOrder offers
