use Rattle.std.proofs.Common.{◌≡◌, ◌++◌, map}
use Rattle.std.specs.Vec.Iter.{into_iter_items}
use Rattle.cqf_topology.specs.PacedText.{paced_text}
use Rattle.cqf_traffic.specs.FlowsText.{FlowText, flow_text}
use Rattle.cqf_program_plans.proofs.reserving.requests_of_flows.Given as goal

-- those so far, and those that are still to come
abbrev pub invariant-loop-flow : goal.invariant-loop-flow
invariant-loop-flow l =
    map (λ (flow : FlowText). flow.0.0) (map flow_text l.fn.flows.items)
    ≡ map paced_text l.requests.items ++ map (λ (flow : FlowText). flow.0.0) (map flow_text (into_iter_items l.flow-iterator))
