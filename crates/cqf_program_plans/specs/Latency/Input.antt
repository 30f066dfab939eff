-- The input of the command `latency`, and the result for it.
use Rattle.cqf_model.specs.declared.limits.Limits.{Limits}
use Rattle.std.specs.Prelude.{ℕ, Bool, List, Option, Result, Ok, map}
use Rattle.cqf_lists.specs.Results.{and_then}
use Rattle.cqf_model.specs.History.{Asked}
use Rattle.cqf_text.specs.Parts.{parts_of}
use Rattle.cqf_topology.specs.PlannedText.{PlannedText}
use Rattle.cqf_admission.specs.Asking.{asked_by, asked_paced}
use Rattle.cqf_program_scenario.specs.Parts.{two_parts}
use Rattle.cqf_program_plans.specs.Latency.Output.{PlanFromTalkers, latency_from_talkers}
use Rattle.cqf_program_plans.specs.declared.latency.reading.LatencyInput.{LatencyInput}
use Rattle.cqf_program_plans.specs.Edges.{open_edges_of_part}
use Rattle.cqf_program_plans.specs.Reserving.{requests_at}
use Rattle.cqf_program_scenario.specs.Networks.{domain_of, network_of_part}
use Rattle.cqf_edge.specs.EdgeFlows.{EdgeFlowsText}
use Rattle.cqf_network.specs.NetworkDomain.{NetworkDomain}
use Rattle.cqf_topology.specs.PacedText.{PacedText}

-- the streams as they are requested, and their deadlines, by number
abbrev pub asked_in : List PlannedText → List Asked
asked_in streams = map (λ (planned : PlannedText). asked_by planned.0) streams

abbrev pub deadlines_in : List PlannedText → List (Option ℕ)
deadlines_in streams = map (λ (planned : PlannedText). planned.1) streams

-- the plan of an input as its talkers see it, or the line of the first fault: of the parts, then of the domain, then of the streams, of the
-- first whose talker or listeners don't fit, of the first access link that is full, and of the first stream that reserves less than its
-- traffic needs
abbrev pub plan_with : NetworkDomain → EdgeFlowsText → List PacedText → PlanFromTalkers
plan_with network edge requests =
    record { domain = domain_of network; streams = map asked_by requests; deadlines = edge.deadlines; times = edge.times }

abbrev pub plan_from : NetworkDomain → EdgeFlowsText → Result PlanFromTalkers (List ℕ)
plan_from network edge = and_then (requests_at (domain_of network) edge.flows) (λ requests. Ok (plan_with network edge requests))

abbrev pub streams_for : NetworkDomain → List ℕ → Result PlanFromTalkers (List ℕ)
streams_for network text = and_then (open_edges_of_part network text) (plan_from network)

abbrev pub latency_input : Limits → List ℕ → Result PlanFromTalkers (List ℕ)
latency_input limits input = and_then (two_parts (parts_of input)) (λ parts.
    and_then (network_of_part limits parts.0) (λ network. streams_for network parts.1))

-- the latencies for an input, or the line of its first fault; or else, if strict, the line of the first latency that isn't certain to be
-- within its deadline
abbrev pub latency_of_input : Limits → Bool → List ℕ → Result (List ℕ) (List ℕ)
latency_of_input limits strict input = and_then (latency_input limits input) (latency_from_talkers strict)

-- the plan that is read of it
abbrev pub latency_input_value : LatencyInput → PlanFromTalkers
latency_input_value found = record {
  domain = found.domain;
  streams = map asked_paced found.requests.items;
  deadlines = found.deadlines.items;
  times = found.times.items;
}
