-- The rows of the streams so far.
use Rattle.std.proofs.Common.{◌≡◌, map}
use Rattle.std.specs.Arc.{arc_value}
use Rattle.cqf_admission.specs.declared.holdings.Stand.{Stand}
use Rattle.cqf_admission.proofs.holdings.Holdings.into_rows.Given as goal

abbrev pub invariant-loop-stand : goal.invariant-loop-stand
invariant-loop-stand l = l.rows.items ≡ map (λ (stand : Stand). arc_value stand.row) l.yielded
