-- Properties of first paths, in a planner's terms.
use Rattle.std.specs.Prelude.{ℕ, ◌≡◌, ◌≢◌, Bool, true, List, [], ◌∷◌, ◌++◌, length, Some, Contains}
use Rattle.std.specs.Option.{option_map_or}
use Rattle.cqf_model.specs.declared.topology.Link.{Link}
use Rattle.cqf_model.specs.declared.topology.Node.{Node}
use Rattle.cqf_model.specs.declared.topology.Node.TheVariants.{Station}
use Rattle.cqf_network.specs.Steps.{led_along}
use Rattle.cqf_network.specs.Paths.{IsFirstPath, IsPath, NoWay, has_room, led_to, short_link}

-- there is at most one first path
abbrev pub FirstPathIsOne : Type 0
FirstPathIsOne = (links : List Link) (room : ℕ → Bool) (from to : Node) (path other : List ℕ) → IsFirstPath links room from to path →
    IsFirstPath links room from to other → path ≡ other

-- the nodes in which the links of a path end, in order
abbrev pub ends_along : List Link → Node → List ℕ → List Node
ends_along links node [] = []
ends_along links node (l ∷ path) = option_map_or (λ end. end ∷ ends_along links end path) (led_to links node l) []

-- two paths from one node part for good: after a common beginning they continue by different links, and from there on
-- no node is an end in both
pub record PartForGood (links : List Link) (from : Node) (path other : List ℕ) : Type 0 where
  pub common : List ℕ
  pub node : Node
  pub first : ℕ
  pub second : ℕ
  pub rest : List ℕ
  pub more : List ℕ
  pub path_is : path ≡ common ++ (first ∷ rest)
  pub other_is : other ≡ common ++ (second ∷ more)
  pub to_node : led_along (led_to links) from common ≡ Some node
  pub differ : first ≢ second
  pub apart : (end : Node) → Contains (ends_along links node (first ∷ rest)) end → ¬ Contains (ends_along links node (second ∷ more)) end

-- the first paths to two different stations, with the same room, part for good: they are branches of a tree
abbrev pub FirstPathsPartForGood : Type 0
FirstPathsPartForGood = (links : List Link) (room : ℕ → Bool) (from : Node) (station there : ℕ) (path other : List ℕ) → station ≢ there →
    IsFirstPath links room from (Station station) path → IsFirstPath links room from (Station there) other → PartForGood links from path other

-- no node occurs twice on a first path
pub record EndsOnce (links : List Link) (from : Node) (path : List ℕ) : Type 0 where
  pub not_again : ¬ Contains (ends_along links from path) from
  pub once : (front : List ℕ) (l : ℕ) (rest : List ℕ) (node end : Node) → path ≡ front ++ (l ∷ rest) → led_along (led_to links) from front ≡ Some node →
      led_to links node l ≡ Some end → ¬ Contains (ends_along links end rest) end

abbrev pub FirstPathsHaveNoLoop : Type 0
FirstPathsHaveNoLoop = (links : List Link) (room : ℕ → Bool) (from to : Node) (path : List ℕ) → IsFirstPath links room from to path → EndsOnce links from path

-- if there is no path with room, each path without that condition has a link without room
abbrev pub FullPathsHaveAShortLink : Type 0
FullPathsHaveAShortLink = (links : List Link) (left : List ℕ) (cost : ℕ) (from to : Node) (path : List ℕ) → NoWay links (has_room left cost) from to →
    IsPath links (λ l. true) from to path → (l : ℕ) × (short_link left cost path ≡ Some l)

-- at a cost of 0, each link has room, provided that what it has left is known
abbrev pub NothingHasRoomEverywhere : Type 0
NothingHasRoomEverywhere = (links : List Link) (left : List ℕ) (from to : Node) (path : List ℕ) → length left ≡ length links →
    (IsFirstPath links (has_room left 0) from to path → IsFirstPath links (λ l. true) from to path)
    × (NoWay links (has_room left 0) from to → NoWay links (λ l. true) from to)
