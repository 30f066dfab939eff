-- The rows so far are found by their numbers.
use Rattle.std.proofs.Common.{map}
use Rattle.std.specs.Arc.{arc_value}
use Rattle.cqf_admission.specs.Numbers.{AreNumbered}
use Rattle.cqf_admission.proofs.numbers.Numbers.new.Given as goal

abbrev pub invariant-loop-row : goal.invariant-loop-row
invariant-loop-row l = AreNumbered l.numbers.entries l.row-index (map (λ row. arc_value row) l.rows)
