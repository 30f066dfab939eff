-- The rows so far are the same.
use Rattle.std.proofs.Common.{◌≡◌, map, take}
use Rattle.std.specs.Arc.{arc_value}
use Rattle.cqf_desk.proofs.same.are_same_rows.Given as goal

abbrev pub invariant-loop-index : goal.invariant-loop-index
invariant-loop-index l = map (λ row. arc_value row) (take l.index l.these) ≡ map (λ row. arc_value row) (take l.index l.those)
