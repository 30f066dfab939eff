-- The most listeners of a row so far.
use Rattle.std.proofs.Common.{◌≡◌, fold, length, max, take}
use Rattle.cqf_model.specs.declared.topology.Row.{Row}
use Rattle.cqf_program_plans.specs.Latency.Text.{listeners_of}
use Rattle.cqf_program_runs.proofs.deliveries.rooms.most_listeners.Given as goal

abbrev pub invariant-loop-row : goal.invariant-loop-row
invariant-loop-row l = l.most ≡ fold (λ most (row : Row). max most (length (listeners_of l.domain row))) 0 (take l.row-index l.rows)
