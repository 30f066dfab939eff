use Rattle.std.proofs.Common.{length}
use Rattle.cqf_text.proofs.PartLemmas.{Passed, front_of}
use Rattle.cqf_text.proofs.inputs.split_part.Given as goal

abbrev pub invariant-loop-rest : goal.invariant-loop-rest
invariant-loop-rest l = Passed l.input (front_of l.input l.rest) l.rest

abbrev pub decreases-loop-rest : goal.decreases-loop-rest
decreases-loop-rest l = length l.rest
