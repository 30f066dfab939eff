-- The rows that have begun by a cycle, and the row of a name that is in force.
use Rattle.std.specs.Prelude.{ℕ, true, false, ◌≡◌, ◌≤◌, ◌<◌, List, Option, Some, None, length, slice_get}
use Rattle.cqf_model.specs.declared.topology.Row.{Row}
use Rattle.cqf_model.specs.Domain.{is_text}
use Rattle.cqf_model.specs.Table.{is_held}

-- the row at `index` is the last row of the name among the first `begun` rows
pub record IsLastOf (rows : List Row) (begun : ℕ) (name : List ℕ) (index : ℕ) : Type 0 where
  pub row : Row
  pub is : slice_get rows index ≡ Some row
  pub below : index < begun
  pub named : is_text row.name name ≡ true
  pub later : (other : ℕ) (row_there : Row) → index < other → other < begun → slice_get rows other ≡ Some row_there →
      is_text row_there.name name ≡ false

-- none of the first `begun` rows is of the name; and: the given index, if any, is that of the last row of the name
abbrev pub HaveNone : List Row → ℕ → List ℕ → Type 0
HaveNone rows begun name =
    (index : ℕ) (row : Row) → index < begun → slice_get rows index ≡ Some row → is_text row.name name ≡ false

abbrev pub IsLastBegun : List Row → ℕ → List ℕ → Option ℕ → Type 0
IsLastBegun rows begun name None = HaveNone rows begun name
IsLastBegun rows begun name (Some index) = IsLastOf rows begun name index

-- each name leads to the last of its rows among the first `begun` rows
abbrev pub LeadsToLast : List Row → ℕ → (List ℕ → Option ℕ) → Type 0
LeadsToLast rows begun index_of = (name : List ℕ) → IsLastBegun rows begun name (index_of name)

-- the rows from index `from` up to `to` have begun by the cycle, and names lead to their last rows among the first `to`
pub record Begins (rows : List Row) (from to cycle : ℕ) (index_of : List ℕ → Option ℕ) : Type 0 where
  pub forth : from ≤ to
  pub within : to ≤ length rows
  pub begun : (index : ℕ) (row : Row) → from ≤ index → index < to → slice_get rows index ≡ Some row → row.admitted.0 ≤ cycle
  pub leads : LeadsToLast rows to index_of

-- the rows from index `from` up to `to` have begun by the cycle, and the next row hasn't. Names lead to their last rows among the first
-- `to`
pub record HasBegun (rows : List Row) (from to cycle : ℕ) (index_of : List ℕ → Option ℕ) : Type 0 where
  pub begins : Begins rows from to cycle index_of
  pub next : (row : Row) → slice_get rows to ≡ Some row → cycle < row.admitted.0

-- the last row of a name is held in a cycle; and: the given index, if any, is that row's, and without one the last row isn't held or there
-- is none
pub record IsHeldLast (rows : List Row) (begun : ℕ) (name : List ℕ) (cycle index : ℕ) : Type 0 where
  pub last : IsLastOf rows begun name index
  pub held : is_held last.row cycle ≡ true

abbrev pub IsInForce : List Row → ℕ → List ℕ → ℕ → Option ℕ → Type 0
IsInForce rows begun name cycle None = (index : ℕ) → (last : IsLastOf rows begun name index) → is_held last.row cycle ≡ false
IsInForce rows begun name cycle (Some index) = IsHeldLast rows begun name cycle index
