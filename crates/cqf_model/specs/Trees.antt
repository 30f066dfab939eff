-- The tree of a row.
use Rattle.std.specs.Prelude.{List}
use Rattle.cqf_model.specs.declared.topology.Hop.{Hop}

-- the hops of a stream's branches, each link once, in the order in which the links first occur there
pub record Hops : Type 0 where
  pub items : List Hop
