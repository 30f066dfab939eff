-- The trees of a run's streams, laid one after the other.
use Rattle.std.specs.Prelude.{ℕ, Bool, true, false, ◌≡◌, ◌+◌, ◌*◌, ◌≤◌, ◌<◌, ◌&&◌, nat_lt, All, Contains, List, Option, Some, None, length, slice_get}
use Rattle.cqf_model.specs.declared.topology.Hop.{Hop}
use Rattle.cqf_model.specs.declared.topology.Row.{Row}
use Rattle.cqf_model.specs.Table.{is_live}
use Rattle.cqf_instants.specs.declared.queues.LaidHop.{LaidHop}
use Rattle.cqf_instants.specs.Queues.{branch_at}
use Rattle.cqf_instants.specs.declared.laying.Group.{Group}
use Rattle.cqf_instants.specs.LaidTrees.{IsLaidBranch, StandAfter, after_at, group_at, is_of_tree}

-- whether a stream is live in one of the first `cycles` cycles; the first cycle in which it can be live is that of its admission
abbrev pub is_live_below : ℕ → Row → Bool
is_live_below cycles row = nat_lt row.admitted.0 cycles && is_live row row.admitted.0

-- links have numbers below 4096
abbrev pub HaveLowLinks : List Row → Type 0
HaveLowLinks rows = (row : Row) → Contains rows row → All (λ (hop : Hop). hop.link < 4096) row.tree.items

-- no hops
abbrev pub no_group : Group
no_group = record { first = 0; many = 0 }

-- a stream's tree is laid after the branches if the stream is live in one of the first `cycles` cycles; else nothing is laid
pub record LaysStream (cycles : ℕ) (row : Row) (before after : List LaidHop) (group : Group) : Type 0 where
  pub live : is_live_below cycles row ≡ true → IsLaidBranch row.tree.items before after group
  pub other_group : is_live_below cycles row ≡ false → group ≡ no_group
  pub other_branches : is_live_below cycles row ≡ false → after ≡ before

-- contiguous branches are the hops that follow the link `ingress`, or that begin at the edge if it is none, in the tree of the row at an index
pub record AreHopsOf (row_of : ℕ → ℕ) (index : ℕ) (tree : List Hop) (ingress : Option ℕ) (branches : List LaidHop) (group : Group) : Type 0 where
  pub stand : StandAfter tree ingress branches group
  pub owned : (k : ℕ) → k < group.many → row_of (group.first + k) ≡ index

-- a branch is a hop of a row's tree, and leads to the hops that follow it
pub record IsHopOfRow (cycles : ℕ) (rows : List Row) (branches : List LaidHop) (row_of : ℕ → ℕ) (h : ℕ) : Type 0 where
  pub row : Row
  pub is : slice_get rows (row_of h) ≡ Some row
  pub live : is_live_below cycles row ≡ true
  pub of_tree : is_of_tree row.tree.items h (branch_at branches h)
  pub following : AreHopsOf row_of (row_of h) row.tree.items (Some (branch_at branches h).link) branches (after_at branches h)

-- the trees of those of the first `many` rows that are live in one of the first `cycles` cycles are laid; the group of each row is the
-- position of its hops from the edge bridge. `row_of` gives the index of the row whose tree has a branch
pub record AreLaid (cycles : ℕ) (rows : List Row) (many : ℕ) (branches : List LaidHop) (groups : List Group) : Type 0 where
  pub count : length groups ≡ many
  pub few : length branches ≤ 40200 * many
  pub row_of : ℕ → ℕ
  pub each : (h : ℕ) → h < length branches → IsHopOfRow cycles rows branches row_of h
  pub begin : (index : ℕ) (row : Row) → index < many → slice_get rows index ≡ Some row → is_live_below cycles row ≡ true →
      AreHopsOf row_of index row.tree.items None branches (group_at groups index)
  pub inside : (index : ℕ) → (group_at groups index).first + (group_at groups index).many ≤ length branches
