-- None of the rows so far has the name.
use Rattle.std.proofs.Common.{◌≡◌, None, map, take}
use Rattle.std.specs.Arc.{arc_value}
use Rattle.cqf_model.specs.Table.{row_named}
use Rattle.cqf_admission.proofs.listed.find_named.Given as goal

abbrev pub invariant-loop-row : goal.invariant-loop-row
invariant-loop-row l = row_named (take l.row-index (map (λ row. arc_value row) l.rows)) l.name ≡ None
