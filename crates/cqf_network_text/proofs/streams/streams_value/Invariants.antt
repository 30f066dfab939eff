use Rattle.std.proofs.Common.{◌≡◌, map, take}
use Rattle.toml.specs.Data.{table}
use Rattle.toml.specs.View.{items_of, items_view}
use Rattle.cqf_traffic.specs.FlowsText.{flow_text}
use Rattle.cqf_network_text.specs.StreamMembers.{stream_members}
use Rattle.cqf_network_text.proofs.streams.streams_value.Given as goal

abbrev pub invariant-loop-flow : goal.invariant-loop-flow
invariant-loop-flow l = items_view l.streams.items ≡ items_of (map (λ flow. table (stream_members (flow_text flow))) (take l.flow-index l.flows))
