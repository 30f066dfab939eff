use Rattle.cqf_output.specs.Writer.{Puts}
use Rattle.cqf_program_plans.specs.Load.Text.{lines_of_links}
use Rattle.cqf_program_plans.proofs.load.reported.put_lines.Given as goal

-- the lines of the links so far are put
abbrev pub invariant-loop-link : goal.invariant-loop-link
invariant-loop-link g l = Puts g.W.Write.contents l.initial.writer l.writer (lines_of_links l.domain l.listing l.link)
