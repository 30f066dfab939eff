-- The lines of the links so far.
use Rattle.cqf_lists.specs.Lists.{each_below}
use Rattle.cqf_output.specs.Writer.{Puts}
use Rattle.cqf_program_plans.specs.Load.Streams.{stream_lines_on}
use Rattle.cqf_program_plans.proofs.load.streams.put_streams.Given as goal

abbrev pub invariant-loop-link : goal.invariant-loop-link
invariant-loop-link g l = Puts g.W.Write.contents l.initial.writer l.writer (each_below (stream_lines_on l.domain l.rows) l.link)
