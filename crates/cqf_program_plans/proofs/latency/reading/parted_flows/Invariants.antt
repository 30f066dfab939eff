-- The streams so far are in the two lists, and the others are still to come.
use Rattle.std.proofs.Common.{◌≡◌, ◌++◌, map}
use Rattle.std.specs.Vec.Iter.{into_iter_items}
use Rattle.cqf_admission.specs.Asking.{asked_paced}
use Rattle.cqf_program_plans.specs.Latency.Input.{asked_in, deadlines_in}
use Rattle.cqf_traffic.specs.FlowsText.{FlowText, flow_text}
use Rattle.cqf_program_plans.proofs.latency.reading.parted_flows.Given as goal

abbrev pub invariant-loop-flow : goal.invariant-loop-flow
invariant-loop-flow l =
    (asked_in (map (λ (flow : FlowText). flow.0) (map flow_text l.fn.flows.items))
    ≡ map asked_paced l.requests.items ++ asked_in (map (λ (flow : FlowText). flow.0) (map flow_text (into_iter_items l.flow-iterator))))
    × (deadlines_in (map (λ (flow : FlowText). flow.0) (map flow_text l.fn.flows.items))
    ≡ l.deadlines.items ++ deadlines_in (map (λ (flow : FlowText). flow.0) (map flow_text (into_iter_items l.flow-iterator))))
