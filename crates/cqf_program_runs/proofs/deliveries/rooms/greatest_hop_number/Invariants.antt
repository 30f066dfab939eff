-- The most cycles for which a frame of one of the rows so far can be under way.
use Rattle.std.proofs.Common.{◌≡◌, fold, max, take}
use Rattle.cqf_model.specs.declared.topology.Row.{Row}
use Rattle.cqf_model.specs.Table.{residence}
use Rattle.cqf_program_runs.proofs.deliveries.rooms.greatest_hop_number.Given as goal

abbrev pub invariant-loop-row : goal.invariant-loop-row
invariant-loop-row l = l.most ≡ fold (λ most (row : Row). max most (residence row)) 0 (take l.row-index l.rows)
