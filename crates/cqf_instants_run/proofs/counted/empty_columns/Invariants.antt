-- The columns so far, in which nothing is counted.
use Rattle.cqf_instants_run.specs.Columns.{AreEmptyColumns}
use Rattle.cqf_instants_run.proofs.counted.empty_columns.Given as goal

abbrev pub invariant-loop-link : goal.invariant-loop-link
invariant-loop-link l = AreEmptyColumns l.columns.items l._link l.width
