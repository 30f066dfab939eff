-- The lines of the streams up to the next index are put.
use Rattle.std.proofs.Common.{get_or, length, take}
use Rattle.std.specs.List.{flat_map}
use Rattle.cqf_addressing.specs.Streams.{gate_index}
use Rattle.cqf_output.specs.Writer.{Puts}
use Rattle.cqf_program_tc.specs.Bridge.{stream_gates}
use Rattle.cqf_program_tc.proofs.bridges.put_streams.Given as goal

abbrev pub invariant-loop-index : goal.invariant-loop-index
invariant-loop-index g l =
    Puts g.W.Write.contents l.initial.writer l.writer
    (flat_map (stream_gates l.plan.domain.now (gate_index l.plan.addresses.now) l.plan.rows.now l.bridge) (take (get_or l.indices l.index-index (length l.plan.rows.now)) l.plan.rows.now))
