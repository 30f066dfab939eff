-- Configurations with stream gates only at edge bridges.
use Rattle.std.specs.Prelude.{ℕ, ◌≡◌, ◌↔◌, Bool, true, Contains, List, filter, if◌then◌else◌, is_none, is_some, map}
use Rattle.cqf_compile.specs.BridgeGates.{first_hop, gate_at}
use Rattle.cqf_model.specs.declared.topology.Hop.{Hop}
use Rattle.cqf_model.specs.declared.topology.Row.{Row}
use Rattle.cqf_model.specs.Domain.{Domain}
use Rattle.cqf_model.specs.Table.{IsTree, begins_at, bridges_of}

-- the hops of a tree that follow no other: those by which a stream's frames leave its edge bridge
abbrev pub edge_hops : List Hop → List Hop
edge_hops tree = filter (λ (hop : Hop). is_none hop.from) tree

-- a stream's row with only these hops in its tree
abbrev pub edge_row : Row → Row
edge_row row = record row { tree = record { items = edge_hops row.tree.items } }

-- the rows whose stream gates are written: the streams' own or, with edge gates, those with only these hops
abbrev pub gated_rows : Bool → List Row → List Row
gated_rows edge_gates rows = if edge_gates then map edge_row rows else rows

-- with edge gates, a configuration has a gate of the stream at a bridge if and only if the stream begins there, and that gate is the one
-- that it has without edge gates
pub record HasGateAtItsEdge (d : Domain) (row : Row) (bridge : ℕ) : Type 0 where
  pub gates : Contains (bridges_of d (edge_row row)) bridge ↔ (begins_at d row bridge ≡ true)
  pub leaves : is_some (first_hop d bridge (edge_row row)) ≡ begins_at d row bridge
  pub same : begins_at d row bridge ≡ true → gate_at d (edge_row row) bridge ≡ gate_at d row bridge

abbrev pub EdgeGatesAreAtTheEdge : Type 0
EdgeGatesAreAtTheEdge = (d : Domain) (row : Row) (bridge : ℕ) → IsTree d row.tree.items → HasGateAtItsEdge d row bridge
