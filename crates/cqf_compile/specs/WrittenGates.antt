-- The gate that is written for a stream at a bridge is the one that the network demands there.
use Rattle.std.specs.Prelude.{ℕ, ◌≡◌, ◌<◌, true, Contains, Option}
use Rattle.cqf_gates.specs.SpanLaws.{PassTheSame}
use Rattle.cqf_model.specs.declared.topology.Row.{Row}
use Rattle.cqf_model.specs.Domain.{Domain}
use Rattle.cqf_model.specs.Table.{IsTree, bridges_of, goes_on}
use Rattle.cqf_model.specs.Policing.{gate_list_after}
use Rattle.cqf_compile.specs.BridgeGates.{gate_at, ingress_at}

-- in a tree, each frame that goes on from a bridge came by the link for which the gate is written, or from the edge if there is none
abbrev pub FramesComeThatWay : Type 0
FramesComeThatWay = (d : Domain) (row : Row) (ingress : Option ℕ) (bridge : ℕ) → IsTree d row.tree.items → goes_on d row ingress bridge ≡ true →
    ingress ≡ ingress_at d bridge row

-- so the gate that is written for the bridge passes the same frames of at least one octet as the network's gate, with the same class
abbrev pub WrittenGatesPassTheSame : Type 0
WrittenGatesPassTheSame = (d : Domain) (row : Row) (ingress : Option ℕ) (bridge : ℕ) → 0 < d.cycle_time → IsTree d row.tree.items →
    goes_on d row ingress bridge ≡ true → PassTheSame (gate_at d row bridge) (gate_list_after d row ingress)

-- a gate is written for each bridge from which frames go on
abbrev pub EachBridgeHasAGate : Type 0
EachBridgeHasAGate = (d : Domain) (row : Row) (ingress : Option ℕ) (bridge : ℕ) → goes_on d row ingress bridge ≡ true → Contains (bridges_of d row) bridge
