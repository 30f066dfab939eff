use Rattle.std.proofs.Common.{length}
use Rattle.cqf_output.proofs.EdgeLemmas.{WrittenSoFar}
use Rattle.cqf_output.proofs.outputs.write_part.Given as goal

abbrev pub invariant-loop-rest : goal.invariant-loop-rest
invariant-loop-rest g l = WrittenSoFar (g.W.Write.contents l.fn.output.writer) (g.W.Write.contents l.output.writer) l.fn.text l.rest

abbrev pub decreases-loop-rest : goal.decreases-loop-rest
decreases-loop-rest g l = length l.rest
