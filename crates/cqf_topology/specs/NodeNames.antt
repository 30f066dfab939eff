-- The names of a domain's nodes and links.
use Rattle.std.specs.Prelude.{ℕ, ◌++◌, List, [], ◌∷◌, slice_get, slice_index_or}
use Rattle.std.specs.Option.{option_map_or}
use Rattle.cqf_model.specs.declared.topology.Link.{Link}
use Rattle.cqf_model.specs.declared.topology.Node.{Node}
use Rattle.cqf_model.specs.declared.topology.Node.TheVariants.{Bridge, Station}
use Rattle.cqf_model.specs.Domain.{Domain}

-- the name of a bridge, and of a node. A node that the domain lacks has the empty name
abbrev pub name_of_bridge : Domain → ℕ → List ℕ
name_of_bridge d bridge = slice_index_or d.bridges bridge []

abbrev pub name_of_node : Domain → Node → List ℕ
name_of_node d (Bridge bridge) = name_of_bridge d bridge
name_of_node d (Station station) = slice_index_or d.stations station []

-- a link by its ends, as `FROM>TO`. A link that the domain lacks gives an empty text
abbrev pub ends_of_link : Domain → Link → List ℕ
ends_of_link d link = name_of_bridge d link.from ++ 62 ∷ name_of_node d link.to

abbrev pub name_of_link : Domain → ℕ → List ℕ
name_of_link d l = option_map_or (ends_of_link d) (slice_get d.links l) []
