-- Paths through a network by the numbers of their links, and the first path with room.
use Rattle.std.specs.Prelude.{ℕ, ◌≡◌, ◌<◌, ◌≤◌, All, Bool, true, false, if◌then◌else◌, nat_le, List, find, length, not, Option, Some, None, option_and_then, slice_get}
use Rattle.std.specs.Option.{option_map_or}
use Rattle.std.specs.List.{list_all}
use Rattle.cqf_model.specs.declared.topology.Link.{Link}
use Rattle.cqf_model.specs.declared.topology.Node.{Node}
use Rattle.cqf_model.specs.declared.topology.Node.TheVariants.{Bridge}
use Rattle.cqf_model.specs.Domain.{same_node}
use Rattle.cqf_model.specs.Limits.{most_bridges, most_links as most_numbered}
use Rattle.cqf_network.specs.Steps.{is_before, led_along}

-- the most links of a path that is searched for. So a branch that is found has at most that many bridges
abbrev pub most_links : ℕ
most_links = 16

-- the links of a network by number; there are no more links and bridges than can be represented
pub record AreLinks (links : List Link) : Type 0 where
  pub few : length links ≤ most_numbered
  pub from_bridges : All (λ (link : Link). link.from < most_bridges) links

-- whether a link has at least the cost left
abbrev pub has_room : List ℕ → ℕ → ℕ → Bool
has_room left cost l = option_map_or (λ octets. nat_le cost octets) (slice_get left l) false

-- the node in which a link ends, if the link leaves the given node
abbrev pub led_by : Node → Link → Option Node
led_by node link = if same_node node (Bridge link.from) then Some link.to else None

abbrev pub led_to : List Link → Node → ℕ → Option Node
led_to links node l = option_and_then (led_by node) (slice_get links l)

-- a path from a node to a node: at most 16 links, each with room, and each leaving the node in which the previous one
-- ends. Links leave bridges only, so all nodes between are bridges
pub record IsPath (links : List Link) (room : ℕ → Bool) (from to : Node) (path : List ℕ) : Type 0 where
  pub leads : led_along (led_to links) from path ≡ Some to
  pub roomy : list_all room path ≡ true
  pub few : length path ≤ most_links

-- the first path: no other has fewer links, and none with the same number comes before it, comparing link numbers from
-- the first on
pub record IsFirstPath (links : List Link) (room : ℕ → Bool) (from to : Node) (path : List ℕ) : Type 0 where
  pub is_path : IsPath links room from to path
  pub shortest : (other : List ℕ) → IsPath links room from to other → length path ≤ length other
  pub least : (other : List ℕ) → IsPath links room from to other → length other ≡ length path → is_before other path ≡ false

-- there is no path
abbrev pub NoWay : List Link → (ℕ → Bool) → Node → Node → Type 0
NoWay links room from to = (path : List ℕ) → ¬ IsPath links room from to path

-- the first link of a path that has less left than the cost
abbrev pub short_link : List ℕ → ℕ → List ℕ → Option ℕ
short_link left cost path = find (λ l. not (has_room left cost l)) path
