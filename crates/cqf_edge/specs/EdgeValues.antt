-- What the values of streams at their edge bridges mean.
use Rattle.std.specs.Prelude.{map}
use Rattle.cqf_traffic.specs.FlowsText.{flow_text}
use Rattle.cqf_network.specs.StreamsText.{stream_text}
use Rattle.cqf_edge.specs.declared.flows.EdgeFlows.{EdgeFlows}
use Rattle.cqf_edge.specs.declared.streams.EdgeStreams.{EdgeStreams}
use Rattle.cqf_edge.specs.EdgeFlows.{EdgeFlowsText}
use Rattle.cqf_edge.specs.EdgeStreams.{EdgeStreamsText}

-- streams of a network that has nothing open
abbrev pub edges_text : EdgeFlows → EdgeFlowsText
edges_text edge = record {
  flows = map flow_text edge.flows.items;
  deadlines = edge.deadlines.items;
  times = edge.times.items;
  handed = edge.handed.items;
  full = edge.full;
}

-- streams of a network that is to be planned
abbrev pub edge_streams_text : EdgeStreams → EdgeStreamsText
edge_streams_text edge = record { streams = map stream_text edge.streams.items; times = edge.times.items; full = edge.full }
