use Rattle.cqf_world.specs.Beginning.{AreNewLines}
use Rattle.cqf_world.proofs.making.new_lines.Given as goal

-- the first links are made
abbrev pub invariant-loop-link : goal.invariant-loop-link
invariant-loop-link l = AreNewLines l._link l.lines.items
