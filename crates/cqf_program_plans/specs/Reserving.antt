-- Streams that are read with their traffic, and reserve what it needs.
use Rattle.std.specs.Prelude.{ℕ, ◌+◌, ◌++◌, List, [], ◌∷◌, Option, Some, None, Result, Ok, codes, decimal, if◌then◌else◌, map, nat_lt}
use Rattle.std.specs.Option.{option_or}
use Rattle.cqf_lists.specs.Results.{and_then, refuse}
use Rattle.cqf_laws_timing.specs.Traffic.{needed}
use Rattle.cqf_model.specs.Domain.{Domain}
use Rattle.cqf_topology.specs.PacedText.{PacedText}
use Rattle.cqf_traffic.specs.declared.faults.FlowsFault.{FlowsFault}
use Rattle.cqf_traffic.specs.FlowsText.{FlowText, flows_fault_text}
use Rattle.cqf_traffic.specs.PacedFlows.{PacedFlowText, paced_flows_of_text}
use Rattle.cqf_traffic.specs.TrafficText.{TrafficText, promise_of}
use Rattle.cqf_output.specs.Stops.{fault_line, line_of, or_line}
use Rattle.cqf_program_plans.specs.declared.reserving.Lack.{Lack}

-- the line for streams with traffic that are refused
abbrev pub flows_line : FlowsFault → List ℕ
flows_line fault = fault_line (codes "streams") (flows_fault_text fault)

-- the lack of a stream at this position, from 1, that reserves this number of octets, if its traffic needs more per cycle
abbrev pub lack_at : ℕ → ℕ → ℕ → ℕ → Option TrafficText → Option Lack
lack_at overhead cycle_time index octets None = None
lack_at overhead cycle_time index octets (Some t) =
    if nat_lt octets (needed overhead cycle_time (promise_of t))
    then Some (record { index = index; octets = octets; needed = needed overhead cycle_time (promise_of t) })
    else None

-- the lack of the first of these streams that reserves too little, if the first one has this position; each stream is given by its octets
-- and its traffic
abbrev pub first_lack : ℕ → ℕ → ℕ → List (ℕ × Option TrafficText) → Option Lack
first_lack overhead cycle_time index [] = None
first_lack overhead cycle_time index (stream ∷ more) = option_or (lack_at overhead cycle_time index stream.0 stream.1) (first_lack overhead cycle_time (index + 1) more)

-- the line for a stream that reserves too little
abbrev pub lack_line : Lack → List ℕ
lack_line lack =
    line_of (codes "cqf: stream " ++ (decimal lack.index ++ (codes ": BelowTraffic " ++ (decimal lack.octets ++ (codes " " ++ decimal lack.needed)))))

-- the streams of a text for a domain, or the line of the first fault: of the text, then of the first stream that reserves less than its
-- traffic needs
abbrev pub reserved_octets : PacedFlowText → ℕ × Option TrafficText
reserved_octets flow = (flow.0.octets, flow.1)

abbrev pub requests_in : Domain → List ℕ → Result (List PacedText) (List ℕ)
requests_in d text = and_then (or_line flows_line (paced_flows_of_text text)) (λ flows.
    refuse (first_lack d.overhead d.cycle_time 1 (map reserved_octets flows)) lack_line (Ok (map (λ (flow : PacedFlowText). flow.0) flows)))

-- what a stream with a deadline reserves, and its traffic
abbrev pub planned_octets : FlowText → ℕ × Option TrafficText
planned_octets flow = (flow.0.0.octets, flow.1)

-- the requests of streams at their edge bridges, or the line of the first that reserves less than its traffic needs
abbrev pub requests_at : Domain → List FlowText → Result (List PacedText) (List ℕ)
requests_at d flows = refuse (first_lack d.overhead d.cycle_time 1 (map planned_octets flows)) lack_line (Ok (map (λ (flow : FlowText). flow.0.0) flows))
