-- Links by number.
use Rattle.std.specs.Prelude.{ℕ, ◌≡◌, List, map}
use Rattle.cqf_model.specs.declared.topology.Link.{Link}
use Rattle.cqf_model.specs.declared.topology.Node.{Node}
use Rattle.cqf_topology.specs.JoinedLink.{ends_of}

-- links, by number
pub record Linked : Type 0 where
  pub items : List Link

-- the ends of the links, in their order
abbrev pub AreEndsOf : List Link → List (ℕ × Node) → Type 0
AreEndsOf links ends = ends ≡ map ends_of links
