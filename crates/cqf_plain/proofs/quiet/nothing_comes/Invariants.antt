use Rattle.std.specs.Prelude.{take}
use Rattle.cqf_plain.specs.Due.{NothingComes}
use Rattle.cqf_plain.proofs.quiet.nothing_comes.Given as goal

-- there is nothing for the first bridges
abbrev pub invariant-loop-index : goal.invariant-loop-index
invariant-loop-index l = NothingComes l.cycle.0 (take l.index l.bridges)
