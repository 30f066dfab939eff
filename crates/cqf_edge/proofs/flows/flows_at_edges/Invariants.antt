use Rattle.std.proofs.Common.{◌≡◌, List, Option, None, map, take}
use Rattle.cqf_traffic.specs.FlowsText.{FlowText, flow_text}
use Rattle.cqf_edge.specs.declared.edge.AccessTimes.{AccessTimes}
use Rattle.cqf_edge.specs.declared.uses.Handed.{Handed}
use Rattle.cqf_edge.proofs.flows.flows_at_edges.Given as goal

abbrev pub invariant-loop-flow : goal.invariant-loop-flow
invariant-loop-flow l =
    let done : List FlowText = map flow_text (take l.flow-index l.fn.all.items) in
    let none : FlowText → Option AccessTimes = λ _. None in
    let nothing : FlowText → Option Handed = λ _. None in
    (l.deadlines.items ≡ map (λ (flow : FlowText). flow.0.1) done) × (l.times.items ≡ map none done) × (l.handed.items ≡ map nothing done)
