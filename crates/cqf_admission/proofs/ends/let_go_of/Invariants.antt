-- The streams whose numbers were taken are released.
use Rattle.std.proofs.Common.{◌≡◌}
use Rattle.cqf_admission.proofs.LetGo.{AreTaken}
use Rattle.cqf_admission.proofs.ends.let_go_of.Given as goal

abbrev pub invariant-loop-number : goal.invariant-loop-number
invariant-loop-number l =
    AreTaken l.initial.slot.items l.initial.holdings.rows l.slot.items l.holdings.rows
    × (l.holdings.links ≡ l.initial.holdings.links)

abbrev pub decreases-loop-number : goal.decreases-loop-number
decreases-loop-number l = goal.left-loop-number l
