-- The streams that are held in a cycle, and their trees.
use Rattle.std.specs.Prelude.{ℕ, ◌≡◌, ◌≢◌, ◌+◌, ◌≤◌, ◌<◌, List, [], Bool, true, false, ◌==◌, ◌&&◌, if◌then◌else◌, nat_le, nat_lt, max, fold, map, filter, take}
use Rattle.std.specs.Prelude.{length, All, Option, Some, None, AllPairs, Contains, slice_get, slice_index_or, sum_by, find}
use Rattle.std.specs.Option.{option_map_or}
use Rattle.std.specs.List.{list_any}
use Rattle.cqf_lists.specs.Lists.{each_once}
use Rattle.cqf_units.specs.Timing.{cost_of}
use Rattle.cqf_units.specs.declared.reservations.Cycle.{Cycle}
use Rattle.cqf_model.specs.declared.topology.Hop.{Hop}
use Rattle.cqf_model.specs.declared.topology.Pace.{Pace}
use Rattle.cqf_model.specs.declared.topology.Row.{Row}
use Rattle.cqf_model.specs.Domain.{Domain, bridge_of, budget, end_of, enters, is_text, joins, leaves}
use Rattle.cqf_model.specs.Paces.{is_active}

-- the links of a tree, in its order
abbrev pub links_in : List Hop → List ℕ
links_in tree = map (λ (hop : Hop). hop.link) tree

-- the links of a stream's tree
abbrev pub links_of : Row → List ℕ
links_of row = links_in row.tree.items

-- whether a stream's tree has the link
abbrev pub crosses : Row → ℕ → Bool
crosses row l = list_any (λ k. k == l) (links_of row)

-- the bridges at which a stream has a gate, in the order in which its tree leaves them
abbrev pub bridges_of : Domain → Row → List ℕ
bridges_of d row = each_once (λ a b. a == b) (map (bridge_of d) (links_of row))

-- whether a stream's frames go by the link in the cycle
abbrev pub uses : List Hop → Pace → ℕ → ℕ → Bool
uses tree pace l cycle = list_any (λ (hop : Hop). (hop.link == l) && is_active pace hop.hop_number cycle) tree

-- what a stream costs on a link in a cycle, in octets: the reservation's cost, once regardless of how many listeners are downstream of the
-- link, if its frames go by the link in that cycle; otherwise 0
abbrev pub cost_on : Row → ℕ → ℕ → ℕ
cost_on row l cycle = if uses row.tree.items row.pace l cycle then cost_of row.overhead row.octets else 0

-- the hop number that a frame has reached: 0 at the edge, and after a link the link's hop number
abbrev pub hop_number_after : Row → Option ℕ → ℕ
hop_number_after row None = 0
hop_number_after row (Some m) = option_map_or (λ (hop : Hop). hop.hop_number) (find (λ (hop : Hop). hop.link == m) row.tree.items) 0

-- the octets that a stream reserves in a cycle for frames at this hop number: nothing in the cycles in which none are there
abbrev pub reserved_in : Row → ℕ → ℕ → ℕ
reserved_in row hop_number cycle = if is_active row.pace hop_number cycle then row.octets else 0

-- the number of cycles after its own for which a frame of the stream may be under way: the greatest hop number
abbrev pub residence : Row → ℕ
residence row = fold (λ most (hop : Hop). max most hop.hop_number) 0 row.tree.items

-- the link has this hop number, from 1: the number of links from the first bridge to the link's end
pub record IsHop (row : Row) (hop_number link : ℕ) : Type 0 where
  pub hop : Hop
  pub of_tree : Contains row.tree.items hop
  pub is_hop_number : hop.hop_number ≡ hop_number
  pub is_link : hop.link ≡ link

-- whether the two are the same link, or both are none, the edge
abbrev pub same_ingress : Option ℕ → Option ℕ → Bool
same_ingress None None = true
same_ingress None (Some m) = false
same_ingress (Some l) None = false
same_ingress (Some l) (Some m) = l == m

-- the links on which a frame goes on, from the edge or from the link that it came by
abbrev pub goes_to : Row → Option ℕ → List ℕ
goes_to row ingress = links_in (filter (λ (hop : Hop). same_ingress hop.from ingress) row.tree.items)

-- whether a frame goes on from this bridge, by the link on which it came, or from the edge if it came by none
abbrev pub goes_on : Domain → Row → Option ℕ → ℕ → Bool
goes_on d row ingress bridge = list_any (λ l. leaves d l bridge) (goes_to row ingress)

-- whether the bridge is the stream's first: a link with no link before it leaves the bridge
abbrev pub begins_at : Domain → Row → ℕ → Bool
begins_at d row bridge = goes_on d row None bridge

-- a hop follows another: it leaves the bridge in which the other ends, and its hop number is one more
pub record Follows (d : Domain) (before hop : Hop) : Type 0 where
  pub from : hop.from ≡ Some before.link
  pub joined : joins d before.link hop.link ≡ true
  pub deeper : hop.hop_number ≡ before.hop_number + 1

-- a tree with hop numbers of at most 64: it begins at one first bridge, each hop occurs after the one that it follows, no node is reached
-- twice (so no link occurs twice), and a hop that no other follows ends in a station. Any such order is allowed; that of a request's tree
-- is the order of its branches (`tree_of`)
pub record IsTree (d : Domain) (tree : List Hop) : Type 0 where
  pub first : ℕ
  pub some : 0 < length tree
  pub inside : All (λ (hop : Hop). hop.link < length d.links) tree
  pub deep : All (λ (hop : Hop). hop.hop_number ≤ 64) tree
  pub begins : (hop : Hop) → Contains tree hop → hop.from ≡ None → (hop.hop_number ≡ 1) × (leaves d hop.link first ≡ true)
  pub follows : (index m : ℕ) (hop : Hop) → slice_get tree index ≡ Some hop → hop.from ≡ Some m →
      (before : Hop) × Contains (take index tree) before × Follows d before hop
  pub reached_once : AllPairs (λ (a b : Hop). end_of d a.link ≢ end_of d b.link) tree
  pub first_not_reached : All (λ (hop : Hop). enters d hop.link first ≡ false) tree
  pub ends : (hop : Hop) (bridge : ℕ) → Contains tree hop → enters d hop.link bridge ≡ true →
      (next : Hop) × Contains tree next × Follows d hop next

-- the row's stream is live in the cycle: admitted, and not yet withdrawn
abbrev pub is_live : Row → ℕ → Bool
is_live row cycle =
    nat_le row.admitted.0 cycle && option_map_or (λ (w : Cycle). nat_lt cycle w.0) row.withdrawn true

-- the row's stream is held in the cycle, with its costs, gates and name: admitted and, if it was withdrawn, not yet past the cycle in which
-- its last frame leaves the last bridge of its longest branch
abbrev pub is_held : Row → ℕ → Bool
is_held row cycle =
    nat_le row.admitted.0 cycle && option_map_or (λ (w : Cycle). nat_lt cycle (w.0 + residence row)) row.withdrawn true

-- the row with a name
abbrev pub row_named : List Row → List ℕ → Option Row
row_named rows name = find (λ (row : Row). is_text row.name name) rows

-- the row with a number
abbrev pub row_of : List Row → ℕ → Option Row
row_of rows number = find (λ (row : Row). row.no == number) rows

-- the table of a cycle
abbrev pub table_of : List (List Row) → ℕ → List Row
table_of tables cycle = slice_index_or tables cycle []

-- what the streams of a table cost on a link in a cycle, in octets
abbrev pub link_cost : List Row → ℕ → ℕ → ℕ
link_cost rows l cycle = sum_by (λ (row : Row). cost_on row l cycle) rows

-- one stream in two tables, between which it may have been withdrawn
pub record SameStream (early late : Row) : Type 0 where
  pub name : early.name ≡ late.name
  pub octets : early.octets ≡ late.octets
  pub pace : early.pace ≡ late.pace
  pub tree : early.tree.items ≡ late.tree.items

-- what holds of the tables of a history:
-- - each row has a tree; no two rows of one table have the same number or the same name
-- - a number means the same stream in all tables, while a name may be used again later
-- - a stream that is live in a cycle stays in the tables of the run until its last frame has left the last bridge of its longest branch
-- - what the streams of a table cost on a link, in any cycle, is within the link's budget
-- - each row has the domain's overhead
pub record AreOrderly (d : Domain) (tables : List (List Row)) : Type 0 where
  pub trees : (cycle : ℕ) (row : Row) → Contains (table_of tables cycle) row → IsTree d row.tree.items
  pub numbers : (cycle : ℕ) → AllPairs (λ (a b : Row). a.no ≢ b.no) (table_of tables cycle)
  pub names : (cycle : ℕ) → AllPairs (λ (a b : Row). a.name ≢ b.name) (table_of tables cycle)
  pub one_stream : (cycle later : ℕ) (early late : Row) → Contains (table_of tables cycle) early → Contains (table_of tables later) late →
      early.no ≡ late.no → SameStream early late
  pub stays : (cycle later : ℕ) (row : Row) → Contains (table_of tables cycle) row → is_live row cycle ≡ true →
      cycle ≤ later → later ≤ cycle + residence row → later < length tables →
      (late : Row) × Contains (table_of tables later) late × (row.no ≡ late.no)
  pub loads : (cycle l active_cycle : ℕ) → l < length d.links → link_cost (table_of tables cycle) l active_cycle ≤ budget d l
  pub overheads : (cycle : ℕ) (row : Row) → Contains (table_of tables cycle) row → row.overhead ≡ d.overhead
