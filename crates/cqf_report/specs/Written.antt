-- Tables as they are written. None of their fields needs quotes, so a line has its fields separated by commas.
use Rattle.std.specs.Prelude.{ℕ, ◌≡◌, ◌++◌, List, [], ◌∷◌, false}
use Rattle.std.specs.List.{join_with_byte}
use Rattle.csv.specs.Writing.{default_writer, needs_quotes}
use Rattle.cqf_report.specs.Records.{Fields}

-- the field is written as it is, without quotes: it has no comma, quotation mark or line end
abbrev pub IsPlain : List ℕ → Type 0
IsPlain field = needs_quotes default_writer field ≡ false

-- the line of a record: its fields separated by commas, and a line feed
abbrev pub line_of_fields : Fields → List ℕ
line_of_fields fields = join_with_byte 44 fields ++ 10 ∷ []
