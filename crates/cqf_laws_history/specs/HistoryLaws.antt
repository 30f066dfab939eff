-- Laws about the tables of a history of admissions, in a planner's words.
use Rattle.std.specs.Prelude.{ℕ, ◌≡◌, ◌<◌, ◌≤◌, ◌↔◌, List, None, length, AllPairs, Contains}
use Rattle.cqf_model.specs.declared.topology.Hop.{Hop}
use Rattle.cqf_model.specs.declared.topology.Row.{Row}
use Rattle.cqf_model.specs.Domain.{Domain}
use Rattle.cqf_model.specs.History.{Asked, Branch, IsLegalHistory, Recorded, hops_along, refusal_of, seals, tables_of, tree_of}
use Rattle.cqf_model.specs.Limits.{most_hops}
use Rattle.cqf_model.specs.Table.{AreOrderly, IsTree, table_of}

-- the tables that a legal history closes have what the laws of the network require of tables
abbrev pub TablesAreOrderly : Type 0
TablesAreOrderly =
    (d : Domain) (entries : List Recorded) (cycles : ℕ) → IsLegalHistory d entries → cycles ≤ seals entries → AreOrderly d (tables_of d entries cycles)

-- the tables of the first n cycles are n tables
abbrev pub ThereAreSoManyTables : Type 0
ThereAreSoManyTables = (d : Domain) (entries : List Recorded) (cycles : ℕ) → length (tables_of d entries cycles) ≡ cycles

-- the rows of a table are sorted by number
abbrev pub TablesAscend : Type 0
TablesAscend =
    (d : Domain) (entries : List Recorded) (cycles cycle : ℕ) → IsLegalHistory d entries → cycles ≤ seals entries →
    AllPairs (λ (a b : Row). a.no < b.no) (table_of (tables_of d entries cycles) cycle)

-- the branches of a request that isn't refused form a tree
abbrev pub GrantedIsATree : Type 0
GrantedIsATree = (d : Domain) (rows : List Row) (asked : Asked) → refusal_of d rows asked ≡ None → IsTree d (tree_of d asked.paths)

-- the tree of a request that isn't refused contains exactly the hops of the branches
abbrev pub TreeIsItsBranches : Type 0
TreeIsItsBranches =
    (d : Domain) (rows : List Row) (asked : Asked) (hop : Hop) → refusal_of d rows asked ≡ None →
    Contains (tree_of d asked.paths) hop ↔ ((branch : Branch) × Contains asked.paths branch × Contains (hops_along d branch) hop)

-- a tree has no more links than its domain
abbrev pub TreesHaveFewLinks : Type 0
TreesHaveFewLinks = (d : Domain) (tree : List Hop) → IsTree d tree → length tree ≤ length d.links

-- the tree of a request that isn't refused fits into a row
abbrev pub GrantedFitsARow : Type 0
GrantedFitsARow = (d : Domain) (rows : List Row) (asked : Asked) → refusal_of d rows asked ≡ None → length (tree_of d asked.paths) ≤ most_hops
