-- The lines of the links so far.
use Rattle.std.proofs.Common.{take}
use Rattle.cqf_output.specs.Writer.{Puts}
use Rattle.cqf_program_plans.specs.Load.Access.{lines_of_access}
use Rattle.cqf_program_plans.proofs.load.reported.put_all_access.Given as goal

abbrev pub invariant-loop-load : goal.invariant-loop-load
invariant-loop-load g l = Puts g.W.Write.contents l.initial.writer l.writer (lines_of_access (take l.load-index l.loads))
