-- The streams so far.
use Rattle.std.proofs.Common.{◌≡◌}
use Rattle.cqf_edge.specs.EdgeValues.{edges_text}
use Rattle.cqf_lists.specs.Lists.{each_below}
use Rattle.cqf_program_diff.specs.Streams.{element_at}
use Rattle.cqf_program_diff.proofs.streams.stream_elements.Given as goal

abbrev pub invariant-loop-index : goal.invariant-loop-index
invariant-loop-index l = l.elements.items ≡ each_below (element_at l.domain l.talkers (edges_text l.edge)) l.index
