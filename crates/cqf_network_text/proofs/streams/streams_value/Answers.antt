use Rattle.std.proofs.Common.{ap, sym, ◌∙◌}
use Rattle.std.proofs.lemmas.Simd.{map-map}
use Rattle.toml.specs.Data.{Data, array, table}
use Rattle.toml.specs.View.{items_of}
use Rattle.toml.proofs.Views.{view-Array, view-Table}
use Rattle.cqf_traffic.specs.declared.flows.Flow.{Flow}
use Rattle.cqf_traffic.specs.FlowsText.{flow_text}
use Rattle.cqf_network_text.specs.StreamMembers.{stream_members}
use Rattle.cqf_network_text.proofs.Putting.{push_here, push_last}
use Rattle.cqf_network_text.proofs.streams.streams_value.Goals as goal

-- a stream's data
abbrev data_of : Flow → Data
data_of flow = table (stream_members (flow_text flow))

pub loop-flow-preserved : goal.loop-flow-preserved
loop-flow-preserved c =
    push_here data_of c.args.flows.now c.loop-flow.flow-index c.flow-item.result c.loop-flow.streams.items c.push.new.self.items
    _ c.loop-flow-test.true c.flow-item.is (view-Table c.in_ok-table.table ∙ ap table c.in_ok-table.ensures) c.in_ok-push.ensures.items c.loop-flow.invariant

pub returns : goal.returns
returns c =
    view-Array c.loop-flow.streams
    ∙ ap array (push_last data_of c.args.flows.now c.loop-flow.flow-index c.loop-flow.streams.items c.loop-flow-test.false c.loop-flow.invariant
    ∙ ap items_of (sym (map-map (λ flow. table (stream_members flow)) flow_text c.args.flows.now)))
