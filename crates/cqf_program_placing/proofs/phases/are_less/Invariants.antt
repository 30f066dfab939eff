-- What follows the index decides.
use Rattle.cqf_program_placing.proofs.Loads.{AreAlikeSoFar}
use Rattle.cqf_program_placing.proofs.phases.are_less.Given as goal

abbrev pub invariant-loop-index : goal.invariant-loop-index
invariant-loop-index l = AreAlikeSoFar l.loads l.others l.index
