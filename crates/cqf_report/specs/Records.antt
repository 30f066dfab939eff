-- The records of a text of comma-separated values, as the reader of the crate `csv` reads them, and what a reader still returns.
use Rattle.std.specs.Prelude.{ℕ, ◌≡◌, ◌≢◌, ◌<◌, ⊤, List, [], ◌∷◌, Option, Some, IfSome, false, length}
use Rattle.csv.specs.Machine.{ends_at_end}
use Rattle.csv.specs.Reading.{Ready, default_config, expected_len, is_flexible, reader_config, reader_state, reader_trim, records, records_from, source_of}
use Rattle.csv.specs.Reading.{strip_bom}
use Rattle.csv.specs.declared.reader.Reader.{Reader}
use Rattle.csv.specs.declared.reader.Trim.TheVariants as trim
use Rattle.cqf_report.specs.declared.records.TakenRecord.{TakenRecord}
use Rattle.cqf_report.specs.declared.records.TakenRecord.TheVariants.{Row, End, Refused}

-- the fields of a record, each as its bytes
abbrev pub Fields : Type 0
Fields = List (List ℕ)

-- the records of a text, the header first
abbrev pub records_of : List ℕ → List Fields
records_of text = records default_config (strip_bom text)

-- the reader still returns these records, and expects this number of fields in each, if any is given
pub record StillGives {R : Type 0} (remaining : R → Option (List ℕ)) (expected : Option ℕ) (reader : Reader R) (rows : List Fields) : Type 0 where
  pub ready : Ready reader
  pub untrimmed : reader_trim reader ≡ trim.None
  pub plain : reader_config reader ≡ default_config
  pub inflexible : is_flexible reader ≡ false
  pub expects : expected_len reader ≡ expected
  pub between : ends_at_end (reader_state reader) ≡ false
  pub unread : List ℕ
  pub source : source_of remaining reader ≡ Some unread
  pub active_cycles : ℕ
  pub enough : length unread < active_cycles
  pub gives : rows ≡ records_from default_config active_cycles (reader_state reader) unread

-- the first of the rows was taken and has the expected number of fields, if any; the reader still returns the others
pub record TakesRow {R : Type 0} (remaining : R → Option (List ℕ)) (expected : Option ℕ) (after : Reader R) (fields : Fields)
    (rows : List Fields) : Type 0 where
  pub rest : List Fields
  pub first : rows ≡ fields ∷ rest
  pub fits : IfSome expected (λ count. count ≡ length fields)
  pub goes_on : StillGives remaining (Some (length fields)) after rest

-- the first of the rows has another number of fields than the header
pub record RefusesRow (expected : Option ℕ) (rows : List Fields) : Type 0 where
  pub fields : Fields
  pub rest : List Fields
  pub first : rows ≡ fields ∷ rest
  pub count : ℕ
  pub expects : expected ≡ Some count
  pub other : count ≢ length fields

-- the reader can read another record, unless it has reached the end
abbrev pub StaysReady : {R : Type 0} → TakenRecord → Reader R → Type 0
StaysReady Row reader = Ready reader
StaysReady End reader = ⊤
StaysReady Refused reader = Ready reader

-- the result of taking a record: the next row, the end, or a row with another number of fields
abbrev pub Takes : {R : Type 0} → (R → Option (List ℕ)) → Option ℕ → TakenRecord → Reader R → Fields → List Fields → Type 0
Takes remaining expected Row after fields rows = TakesRow remaining expected after fields rows
Takes remaining expected End after fields rows = rows ≡ []
Takes remaining expected Refused after fields rows = RefusesRow expected rows
