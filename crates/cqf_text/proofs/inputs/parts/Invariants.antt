use Rattle.std.proofs.Common.{◌≡◌, ◌++◌, map}
use Rattle.cqf_text.specs.Parts.{parts_of}
use Rattle.cqf_text.proofs.PartLemmas.{parts_left, size_of}
use Rattle.cqf_text.proofs.inputs.parts.Given as goal

abbrev pub invariant-loop-rest : goal.invariant-loop-rest
invariant-loop-rest l = map (λ part. part.now) l.parts.items ++ parts_left l.rest ≡ parts_of l.input

abbrev pub decreases-loop-rest : goal.decreases-loop-rest
decreases-loop-rest l = size_of l.rest
