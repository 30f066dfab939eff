use Rattle.cqf_plain.specs.Driven.{AreHandedOut}
use Rattle.cqf_plain.proofs.handing.hand_out.Given as goal

-- the batches so far are handed out
abbrev pub invariant-loop-batch : goal.invariant-loop-batch
invariant-loop-batch l = AreHandedOut l.domain l.yielded l.fn.bridges.items l.bridges.items
