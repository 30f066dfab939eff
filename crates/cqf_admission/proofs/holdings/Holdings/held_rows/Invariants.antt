-- The rows of the first held streams.
use Rattle.std.proofs.Common.{◌≡◌, map, filter, take}
use Rattle.std.specs.Arc.{arc_value}
use Rattle.cqf_admission.specs.Holdings.{Standing, standing_of}
use Rattle.cqf_admission.proofs.holdings.Holdings.held_rows.Given as goal

abbrev pub invariant-loop-number : goal.invariant-loop-number
invariant-loop-number l =
    map (λ row. arc_value row) l.rows.items
    ≡ take l.number-index (map (λ (stand : Standing). stand.row) (filter (λ (stand : Standing). stand.held) (map standing_of l.stands.items)))
