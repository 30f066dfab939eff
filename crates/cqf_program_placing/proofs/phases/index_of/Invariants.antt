-- The shares before the index are no less.
use Rattle.cqf_program_placing.proofs.Loads.{AreNoLess}
use Rattle.cqf_program_placing.proofs.phases.index_of.Given as goal

abbrev pub invariant-loop-index : goal.invariant-loop-index
invariant-loop-index l = AreNoLess l.share l.loads l.index
