-- The lines so far are put.
use Rattle.cqf_lists.specs.Lists.{each_below}
use Rattle.cqf_output.specs.Writer.{Puts}
use Rattle.cqf_program_tc.specs.Text.{choice_line}
use Rattle.cqf_program_tc.proofs.frame.put_choice_lines.Given as goal

abbrev pub invariant-loop-bridge : goal.invariant-loop-bridge
invariant-loop-bridge g l = Puts g.W.Write.contents l.initial.writer l.writer (each_below (choice_line l.domain) l.bridge)
