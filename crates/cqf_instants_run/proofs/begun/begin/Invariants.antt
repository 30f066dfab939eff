-- The rows up to here have begun.
use Rattle.std.specs.BTreeMap.{get}
use Rattle.std.specs.Cmp.Lexicographic.{slice_cmp}
use Rattle.std.specs.Ordering.{nat_cmp}
use Rattle.cqf_instants_run.specs.Begun.{Begins}
use Rattle.cqf_instants_run.proofs.begun.begin.Given as goal

abbrev pub invariant-loop-index : goal.invariant-loop-index
invariant-loop-index l = Begins l.rows l.from l.index l.cycle.0 (λ name. get (slice_cmp nat_cmp) l.last name)
