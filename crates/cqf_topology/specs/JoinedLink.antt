-- The ends of a link by number, before the numbers are known to be small.
use Rattle.std.specs.Prelude.{ℕ, ◌<◌, ◌==◌, ◌&&◌, Bool}
use Rattle.cqf_model.specs.declared.topology.Link.{Link}
use Rattle.cqf_model.specs.declared.topology.Node.{Node}
use Rattle.cqf_model.specs.declared.topology.Node.TheVariants.{Bridge, Station}
use Rattle.cqf_model.specs.Domain.{same_node}
use Rattle.cqf_topology.specs.declared.joined.End.{End}
use Rattle.cqf_topology.specs.declared.joined.End.TheVariants as end

-- the node that an end is
abbrev pub node_of : End → Node
node_of (end.Bridge b) = Bridge b
node_of (end.Station s) = Station s

-- the end that a node is
abbrev pub end_of_joined : Node → End
end_of_joined (Bridge b) = end.Bridge b
end_of_joined (Station s) = end.Station s

-- both ends of a link, as they are in a set of ends and as they are in the link; and whether two pairs of ends are the same
abbrev pub ends_held : ℕ × End → ℕ × Node
ends_held k = (k.0, node_of k.1)

abbrev pub ends_of : Link → ℕ × Node
ends_of link = (link.from, link.to)

abbrev pub are_same_ends : ℕ × Node → ℕ × Node → Bool
are_same_ends a b = (a.0 == b.0) && same_node a.1 b.1

-- the number of a node fits two octets, and so do both numbers of a link's ends
abbrev pub IsSmallNode : Node → Type 0
IsSmallNode (Bridge b) = b < 65536
IsSmallNode (Station s) = s < 65536

pub record HasSmallEnds (link : Link) : Type 0 where
  pub from_small : link.from < 65536
  pub to_small : IsSmallNode link.to
