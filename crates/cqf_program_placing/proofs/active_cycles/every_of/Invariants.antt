-- The greatest of the numbers so far that divide both.
use Rattle.cqf_program_placing.proofs.Stepping.{IsGreatestSoFar}
use Rattle.cqf_program_placing.proofs.active_cycles.every_of.Given as goal

abbrev pub invariant-loop-index : goal.invariant-loop-index
invariant-loop-index l = IsGreatestSoFar l.cycles l.index l.every
