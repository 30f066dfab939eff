use Rattle.cqf_world.specs.Parts.{AreComing}
use Rattle.cqf_world.proofs.sending.put_all.Given as goal

abbrev pub invariant-loop-batch : goal.invariant-loop-batch
invariant-loop-batch l = AreComing l.domain l.yielded l.fn.lines.items l.lines.items
