-- What `deliveries` and `check` read: a scenario, as `run` does, and its streams with their deadlines.
use Rattle.cqf_model.specs.declared.limits.Limits.{Limits}
use Rattle.std.specs.Prelude.{ℕ, List, Result, Ok, if◌then◌else◌, map}
use Rattle.cqf_lists.specs.Results.{and_then}
use Rattle.cqf_model.specs.HistoryBook.{run_of_history}
use Rattle.cqf_model.specs.Run.{Run}
use Rattle.cqf_text.specs.Parts.{parts_of}
use Rattle.cqf_topology.specs.PlannedText.{PlannedText, planned_of_text}
use Rattle.cqf_program_scenario.specs.Lines.{streams_line}
use Rattle.cqf_network.specs.NetworkDomain.{NetworkDomain}
use Rattle.cqf_traffic.specs.FlowsText.{FlowText}
use Rattle.cqf_program_plans.specs.Edges.{has_access, open_edges_of_part}
use Rattle.cqf_program_scenario.specs.Networks.{domain_of, network_of_part}
use Rattle.cqf_program_scenario.specs.Parts.{RunTexts, run_parts}
use Rattle.cqf_program_plans.specs.Latency.Input.{asked_in}
use Rattle.cqf_program_scenario.specs.Calls.{history_of}
use Rattle.cqf_program_scenario.specs.Scenario.{Scenario, scenario_after}
use Rattle.cqf_output.specs.Stops.{or_line}

-- the streams of a part of a network, with their deadlines from their edge bridges on; or the line of the first fault. If no station has an
-- access link, traffic isn't read
abbrev pub planned_of_part : NetworkDomain → List ℕ → Result (List PlannedText) (List ℕ)
planned_of_part network text =
    if has_access network
    then and_then (open_edges_of_part network text) (λ edge. Ok (map (λ (flow : FlowText). flow.0) edge.flows))
    else or_line streams_line (planned_of_text text)

-- the scenario of the parts over some cycles, and its streams with their deadlines; or the line of the parts' first
-- fault: of the domain, then of the streams, the script, the offers and the background frames
abbrev pub planned_scenario_of : Limits → ℕ → RunTexts → Result (Scenario × List PlannedText) (List ℕ)
planned_scenario_of limits cycles texts = and_then (network_of_part limits texts.domain) (λ network.
    and_then (planned_of_part network texts.streams) (λ streams.
    and_then (scenario_after cycles (domain_of network) (asked_in streams) texts) (λ scenario. Ok (scenario, streams))))

-- the scenario of an input, or the line of its first fault: of the number of parts, and then of the parts
abbrev pub planned_scenario : Limits → ℕ → List ℕ → Result (Scenario × List PlannedText) (List ℕ)
planned_scenario limits cycles input = and_then (run_parts (parts_of input)) (planned_scenario_of limits cycles)

-- the run of a scenario over some cycles
abbrev pub run_of_scenario : ℕ → Scenario → Run
run_of_scenario cycles s = run_of_history s.domain (history_of cycles s) s.offers s.background cycles
