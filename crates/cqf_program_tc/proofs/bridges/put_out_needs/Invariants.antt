-- The lines so far are put.
use Rattle.cqf_lists.specs.Lists.{each_below}
use Rattle.cqf_output.specs.Writer.{Puts}
use Rattle.cqf_program_tc.specs.Bridge.{if_left, out_need}
use Rattle.cqf_program_tc.proofs.bridges.put_out_needs.Given as goal

abbrev pub invariant-loop-link : goal.invariant-loop-link
invariant-loop-link g l = Puts g.W.Write.contents l.initial.writer l.writer (each_below (if_left l.plan.domain.now l.bridge (out_need l.plan.domain.now l.bridge)) l.link)
