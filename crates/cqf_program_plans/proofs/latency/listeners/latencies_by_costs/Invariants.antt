-- The latencies of the rows so far.
use Rattle.std.proofs.Common.{◌≡◌, map, take}
use Rattle.std.specs.List.{flat_map}
use Rattle.cqf_model.specs.declared.topology.Row.{Row}
use Rattle.cqf_program_plans.specs.Latency.Text.{deadline_of, latencies_of_row, latency_from_talker, times_of}
use Rattle.cqf_program_plans.proofs.latency.listeners.latencies_by_costs.Given as goal

abbrev pub invariant-loop-row : goal.invariant-loop-row
invariant-loop-row l =
    l.latencies.items
    ≡ flat_map (λ (row : Row).
    map (latency_from_talker (times_of l.times row.no)) (latencies_of_row l.costs.domain l.costs.rows row (deadline_of l.deadlines row.no)))
    (take l.row-index l.row-items)
