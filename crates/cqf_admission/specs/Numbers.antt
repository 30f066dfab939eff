-- The numbers of streams by their names, shared by tables.
use Rattle.std.specs.Prelude.{ℕ, ◌≡◌, ◌≤◌, All, List, Option, Some, None, if◌then◌else◌, length, take}
use Rattle.std.specs.BTreeMap.{is_at}
use Rattle.std.specs.Cmp.Lexicographic.{slice_cmp}
use Rattle.std.specs.Map.{lookup}
use Rattle.std.specs.Ordering.{nat_cmp}
use Rattle.cqf_model.specs.declared.topology.Row.{Row}
use Rattle.cqf_model.specs.Domain.{is_text}
use Rattle.cqf_model.specs.Table.{row_of}

-- the number of a name, from pairs of names and numbers
abbrev pub number_in : List (List ℕ × ℕ) → List ℕ → Option ℕ
number_in numbers name = lookup (is_at (slice_cmp nat_cmp name)) numbers

-- the row's number is the one listed under its name
abbrev pub IsNumbered : List (List ℕ × ℕ) → Row → Type 0
IsNumbered numbers row = number_in numbers row.name ≡ Some row.no

-- a row, if it has the name
abbrev pub if_named : List ℕ → Option Row → Option Row
if_named name None = None
if_named name (Some row) = if is_text row.name name then Some row else None

-- the row with the number of a name, if it has the name
abbrev pub row_with : List Row → List ℕ → Option ℕ → Option Row
row_with rows name None = None
row_with rows name (Some number) = if_named name (row_of rows number)

abbrev pub row_numbered : List Row → List (List ℕ × ℕ) → List ℕ → Option Row
row_numbered rows numbers name = row_with rows name (number_in numbers name)

-- the first `numbered` rows are found by the numbers of their names
pub record AreNumbered (numbers : List (List ℕ × ℕ)) (numbered : ℕ) (rows : List Row) : Type 0 where
  pub within : numbered ≤ length rows
  pub each : All (IsNumbered numbers) (take numbered rows)
