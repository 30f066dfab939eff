-- The deliveries to the listeners so far are there.
use Rattle.std.proofs.Common.{◌≡◌, filter, map, take}
use Rattle.cqf_model.specs.declared.topology.Hop.{Hop}
use Rattle.cqf_model.specs.Domain.{end_of}
use Rattle.cqf_program_plans.specs.Latency.Text.{is_station}
use Rattle.cqf_program_runs.specs.Deliveries.{delivery_to}
use Rattle.cqf_program_runs.specs.Deliveries.UnderWay.{whole_in}
use Rattle.cqf_program_runs.proofs.deliveries.made.put_to_listeners.Given as goal

abbrev pub invariant-loop-hop : goal.invariant-loop-hop
invariant-loop-hop l =
    l.here ≡ map (delivery_to l.domain (whole_in l.domain l.row l.slot) l.deadline l.x)
    (filter (λ (hop : Hop). is_station (end_of l.domain hop.link)) (take l.hop-index l.hop-items))
