use Rattle.std.specs.Prelude.{◌≡◌, ◌++◌, map, take, drop}
use Rattle.cqf_plain.specs.Due.{driven_past}
use Rattle.cqf_plain.proofs.quiet.pass_all.Given as goal

-- the first bridges have passed
abbrev pub invariant-loop-index : goal.invariant-loop-index
invariant-loop-index l = l.bridges.items ≡ map (driven_past l.cycle.0) (take l.index l.fn.bridges.items) ++ drop l.index l.fn.bridges.items
