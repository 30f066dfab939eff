-- What is noted of the words so far.
use Rattle.cqf_admission.specs.Names.{index_under}
use Rattle.cqf_program_tc.proofs.Naming.{AreTakenUpTo}
use Rattle.cqf_program_tc.proofs.variables.are_taken.Given as goal

abbrev pub invariant-loop-index : goal.invariant-loop-index
invariant-loop-index l = AreTakenUpTo l.words (index_under l.indices) l.taken.items l.index
