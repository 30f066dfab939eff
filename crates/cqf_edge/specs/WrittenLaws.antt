-- The streams of a text have a jitter and an offset in the ranges that a text may have, as is required where they are put at their edge
-- bridges.
use Rattle.std.specs.Prelude.{ℕ, ◌≡◌, All, List, Ok}
use Rattle.cqf_network.specs.NetworkFlows.{NetworkFlowText, network_flows_of_text}
use Rattle.cqf_network.specs.StreamsText.{StreamText, network_streams_of_text}
use Rattle.cqf_edge.specs.EdgeFlows.{IsWrittenFlow}
use Rattle.cqf_edge.specs.EdgeStreams.{IsWrittenStream}

-- streams of a network that has nothing open
abbrev pub ReadFlowsAreWritten : Type 0
ReadFlowsAreWritten = (text : List ℕ) (found : List NetworkFlowText) → network_flows_of_text text ≡ Ok found → All IsWrittenFlow found

-- streams of a network that is to be planned
abbrev pub ReadStreamsAreWritten : Type 0
ReadStreamsAreWritten = (text : List ℕ) (streams : List StreamText) → network_streams_of_text text ≡ Ok streams → All IsWrittenStream streams
