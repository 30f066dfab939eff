-- The latencies of the hops so far follow those before the row.
use Rattle.std.proofs.Common.{◌≡◌, ◌++◌, filter, map, take}
use Rattle.cqf_model.specs.declared.topology.Hop.{Hop}
use Rattle.cqf_model.specs.Domain.{end_of}
use Rattle.cqf_model.specs.History.{most_beside}
use Rattle.cqf_program_plans.specs.Latency.Text.{is_station, latency_from_talker, latency_to}
use Rattle.cqf_program_plans.proofs.latency.listeners.push_listeners.Given as goal

abbrev pub invariant-loop-hop : goal.invariant-loop-hop
invariant-loop-hop l =
    l.latencies.items ≡ l.initial.latencies.items
    ++ map (λ (hop : Hop). latency_from_talker l.ends.times
    (latency_to l.costs.domain (most_beside l.costs.rows l.row.tree.items l.row.pace hop.link) l.row l.ends.deadline hop))
    (filter (λ (hop : Hop). is_station (end_of l.costs.domain hop.link)) (take l.hop-index l.hop-items))
