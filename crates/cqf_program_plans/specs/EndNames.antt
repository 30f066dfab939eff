-- The name of the node in which a link ends.
use Rattle.std.specs.Prelude.{ℕ, List, []}
use Rattle.std.specs.Option.{option_map_or}
use Rattle.cqf_model.specs.Domain.{Domain, end_of}
use Rattle.cqf_topology.specs.NodeNames.{name_of_node}

-- the name of the node in which a link ends; empty for a link that the domain lacks
abbrev pub name_of_end : Domain → ℕ → List ℕ
name_of_end d link = option_map_or (name_of_node d) (end_of d link) []
