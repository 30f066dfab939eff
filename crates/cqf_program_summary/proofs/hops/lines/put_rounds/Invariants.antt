-- The rounds so far are written.
use Rattle.std.proofs.Common.{List}
use Rattle.cqf_model.specs.declared.frames.Started.{Started}
use Rattle.cqf_output.specs.Writer.{Puts}
use Rattle.cqf_program_summary.specs.Hops.Rounds.{CanBeWritten, written_from}
use Rattle.cqf_program_summary.proofs.Writing.{AreWrittenSoFar}
use Rattle.cqf_program_summary.proofs.hops.lines.put_rounds.Given as goal

abbrev pub invariant-loop-round : goal.invariant-loop-round
invariant-loop-round g l = (starts : List Started) → CanBeWritten starts (written_from l.domain l.run l.rounds l.fn.under_way) →
    AreWrittenSoFar starts (written_from l.domain l.run l.rounds l.fn.under_way) l.round-index l.under_way (Puts g.W.Write.contents l.fn.writer l.writer)
