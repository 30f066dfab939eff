-- The lines up to the next index are put, and it is noted over which links streams arrived.
use Rattle.std.proofs.Common.{get_or, length}
use Rattle.cqf_addressing.specs.Streams.{gate_index}
use Rattle.cqf_output.specs.Writer.{Puts}
use Rattle.cqf_program_tc.specs.Bridge.{stream_clearing}
use Rattle.cqf_program_tc.proofs.LeavingRows.{AreSoFar}
use Rattle.cqf_program_tc.proofs.bridges.put_clearings.Given as goal

abbrev pub invariant-loop-index : goal.invariant-loop-index
invariant-loop-index g l =
    AreSoFar (λ text. Puts g.W.Write.contents l.initial.writer l.writer text) (stream_clearing l.plan.domain.now l.plan.rows.now l.bridge) l.plan.domain.now l.bridge l.plan.rows.now l.seen
    (get_or l.indices l.index-index (length l.plan.rows.now))
