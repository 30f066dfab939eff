-- Sets of nodes in which a path may end, and the links that lead into them.
use Rattle.std.specs.Prelude.{ℕ, ◌≡◌, ◌<◌, Bool, true, false, if◌then◌else◌, List, Option, None, slice_index_or}
use Rattle.cqf_model.specs.declared.topology.Link.{Link}
use Rattle.cqf_model.specs.declared.topology.Node.{Node}
use Rattle.cqf_model.specs.declared.topology.Node.TheVariants.{Bridge, Station}
use Rattle.cqf_model.specs.Domain.{same_node}
use Rattle.cqf_network.specs.declared.path_ends.Ends.{Ends}
use Rattle.cqf_network.specs.declared.path_ends.Ends.TheVariants as ends
use Rattle.cqf_network.specs.Steps.{LeadsInto, SomeLeadsInto}
use Rattle.cqf_network.specs.Paths.{led_to}

-- whether a node is in a set of bridges that is given by a mark for each bridge
abbrev pub is_marked : List Bool → Node → Bool
is_marked marks (Bridge bridge) = slice_index_or marks bridge false
is_marked marks (Station station) = false

-- whether a node is in a set: the single node, or the marked bridges
abbrev pub is_in : Ends → Node → Bool
is_in (ends.Only only) node = same_node only node
is_in (ends.Bridges marks) node = is_marked marks node

-- the node to which a link leads from a node, if the link has room
abbrev pub open_to : List Link → (ℕ → Bool) → Node → ℕ → Option Node
open_to links room node l = if room l then led_to links node l else None

-- link l adds marks: marked bridges stay marked, and another bridge is marked if and only if link l leads from it into
-- the set
pub record IsMarkedBy (next : Node → ℕ → Option Node) (ends : Node → Bool) (l : ℕ) (before after : List Bool) : Type 0 where
  pub kept : (node : Node) → is_marked before node ≡ true → is_marked after node ≡ true
  pub added : (node end : Node) → LeadsInto next ends node l end → is_marked after node ≡ true
  pub others : (node : Node) → is_marked after node ≡ true → is_marked before node ≡ false → (end : Node) × LeadsInto next ends node l end

-- the marks by the first `count` links: a bridge from which one of them leads into the set is marked, and from each
-- marked bridge some link leads into it
pub record AreMarked (next : Node → ℕ → Option Node) (ends : Node → Bool) (count : ℕ) (marks : List Bool) : Type 0 where
  pub leads : (node : Node) → is_marked marks node ≡ true → SomeLeadsInto next ends node
  pub all : (node end : Node) (l : ℕ) → l < count → LeadsInto next ends node l end → is_marked marks node ≡ true
