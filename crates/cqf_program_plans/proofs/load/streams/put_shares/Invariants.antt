-- The lines of the access links so far.
use Rattle.cqf_lists.specs.Lists.{each_below}
use Rattle.cqf_output.specs.Writer.{Puts}
use Rattle.cqf_program_plans.specs.Load.Streams.{share_lines_at}
use Rattle.cqf_program_plans.proofs.load.streams.put_shares.Given as goal

abbrev pub invariant-loop-index : goal.invariant-loop-index
invariant-loop-index g l = Puts g.W.Write.contents l.initial.writer l.writer (each_below (share_lines_at l.access l.shares) l.index)
