-- The streams so far are settled, and their names are held.
use Rattle.std.proofs.Common.{◌≡◌, ◌≤◌, [], length, map}
use Rattle.std.specs.Vec.Iter.{into_iter_items}
use Rattle.cqf_model.specs.Limits.{most_streams}
use Rattle.cqf_network.specs.StreamsText.{stream_text}
use Rattle.cqf_topology.specs.DomainText.{with_front}
use Rattle.cqf_program_placing.specs.Settled.{settled_after, settled_value}
use Rattle.cqf_program_placing.proofs.settling.settle_all.Given as goal

abbrev pub invariant-loop-stream : goal.invariant-loop-stream
invariant-loop-stream l =
    (with_front (map settled_value l.settled.items)
    (settled_after l.at.network.now l.at.plan.now l.held.keys (map stream_text (into_iter_items l.stream-iterator)))
    ≡ settled_after l.at.network.now l.at.plan.now [] (map stream_text l.fn.streams.items))
    × (length l.held.keys ≤ most_streams)
