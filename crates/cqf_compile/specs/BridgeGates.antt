-- The gate that is written for a stream at a bridge.
use Rattle.std.specs.Prelude.{ℕ, List, Option, find}
use Rattle.std.specs.Option.{option_and_then}
use Rattle.cqf_model.specs.declared.gates.StreamEntry.{StreamEntry}
use Rattle.cqf_model.specs.declared.topology.Hop.{Hop}
use Rattle.cqf_model.specs.declared.topology.Row.{Row}
use Rattle.cqf_model.specs.Domain.{Domain, leaves}
use Rattle.cqf_model.specs.Table.{hop_number_after}
use Rattle.cqf_gates.specs.ReservedSpans.{reserved_spans}

-- the first hop by which a stream leaves a bridge
abbrev pub first_hop : Domain → ℕ → Row → Option Hop
first_hop d bridge row = find (λ (hop : Hop). leaves d hop.link bridge) row.tree.items

-- the link by which the stream arrives at the bridge: the one before that hop, or none if its frames are offered there
abbrev pub ingress_at : Domain → ℕ → Row → Option ℕ
ingress_at d bridge row = option_and_then (λ (hop : Hop). hop.from) (first_hop d bridge row)

-- the stream's written gate at the bridge: that of frames that came by that link, or that were offered there
abbrev pub gate_at : Domain → Row → ℕ → List StreamEntry
gate_at d row bridge = reserved_spans d.cycle_time row.octets row.pace (hop_number_after row (ingress_at d bridge row))
