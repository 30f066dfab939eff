-- The lines of the rows so far.
use Rattle.std.proofs.Common.{take}
use Rattle.cqf_output.specs.Writer.{Puts}
use Rattle.cqf_program_plans.specs.Load.Streams.{stream_lines_on}
use Rattle.cqf_program_plans.proofs.load.streams.put_streams_on.Given as goal

abbrev pub invariant-loop-row : goal.invariant-loop-row
invariant-loop-row g l = Puts g.W.Write.contents l.initial.writer l.writer (stream_lines_on l.domain (take l.row-index l.rows) l.link)
