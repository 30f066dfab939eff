-- The first rows have only the kept hops.
use Rattle.std.specs.Prelude.{◌≡◌, map, take}
use Rattle.cqf_program_plans.specs.Compile.Gated.{edge_row}
use Rattle.cqf_program_plans.proofs.compile.gated.edge_rows.Given as goal

abbrev pub invariant-loop-row : goal.invariant-loop-row
invariant-loop-row l = l.edge.items ≡ map edge_row (take l.row-index l.rows)
