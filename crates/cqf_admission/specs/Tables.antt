-- The table of a cycle, as its holders see it.
use Rattle.std.specs.Prelude.{ℕ, ◌≡◌, ◌≢◌, ◌<◌, ◌↔◌, List, Option, Some, All, AllPairs, Contains, length}
use Rattle.cqf_model.specs.declared.topology.Row.{Row}
use Rattle.cqf_model.specs.Domain.{Domain}
use Rattle.cqf_model.specs.Table.{IsTree, links_of}

-- a cycle, and the streams that are held in it, by number
pub record CycleTable : Type 0 where
  pub cycle : ℕ
  pub rows : List Row

-- the rows are in the order of their numbers, and no two have the same number or name
pub record AreInOrder (rows : List Row) : Type 0 where
  pub numbers : AllPairs (λ (a b : Row). a.no < b.no) rows
  pub names : AllPairs (λ (a b : Row). a.name ≢ b.name) rows

-- what is found is the row with the name, if there is one; and the row with the number
abbrev pub IsRowNamed : List Row → List ℕ → Option Row → Type 0
IsRowNamed rows name found = (row : Row) → (found ≡ Some row) ↔ (Contains rows row × (row.name ≡ name))

abbrev pub IsRowOf : List Row → ℕ → Option Row → Type 0
IsRowOf rows number found = (row : Row) → (found ≡ Some row) ↔ (Contains rows row × (row.no ≡ number))

-- the rows' trees are trees of the domain; and the rows' links are links of the domain
abbrev pub AreTrees : Domain → List Row → Type 0
AreTrees d rows = (row : Row) → Contains rows row → IsTree d row.tree.items

abbrev pub AreAlongLinks : Domain → List Row → Type 0
AreAlongLinks d rows = (row : Row) → Contains rows row → All (λ l. l < length d.links) (links_of row)
