-- What load reads, step by step.
use Rattle.std.proofs.Common.{◌≡◌, ◌∙◌, ℕ, List, [], Option, Result, Ok, ap, map, sym}
use Rattle.cqf_admission.specs.Asking.{asked_by, asked_paced}
use Rattle.cqf_edge.specs.EdgeFlows.{EdgeFlowsText}
use Rattle.cqf_edge.specs.declared.uses.Handed.{Handed}
use Rattle.cqf_model.specs.declared.limits.Limits.{Limits}
use Rattle.cqf_model.specs.declared.topology.Row.{Row}
use Rattle.cqf_model.specs.Domain.{Domain}
use Rattle.cqf_model.specs.History.{Asked}
use Rattle.cqf_program_scenario.proofs.AskedTexts.{asked_texts}
use Rattle.cqf_program_scenario.specs.Networks.{domain_of}
use Rattle.cqf_network.specs.NetworkDomain.{NetworkDomain}
use Rattle.cqf_topology.specs.declared.paced.PacedRequest.{PacedRequest}
use Rattle.cqf_topology.specs.PacedText.{PacedText, paced_text}
use Rattle.cqf_program_plans.proofs.Steps.{both_give}
use Rattle.cqf_program_plans.specs.declared.load.access.AccessLoad.{AccessLoad}
use Rattle.cqf_program_plans.specs.Edges.{edges_of_part, open_edges_of_part}
use Rattle.cqf_program_plans.specs.Latency.Input.{plan_from, plan_with, streams_for}
use Rattle.cqf_program_plans.specs.Latency.Output.{PlanFromTalkers}
use Rattle.cqf_program_plans.specs.Load.Access.{access_loads}
use Rattle.cqf_program_plans.specs.Load.Output.{LoadedInput, listed_from, load_input, loaded_by_access, loaded_from, loaded_streams, loaded_without, stream_loads, streams_of}
use Rattle.cqf_program_plans.specs.Load.Streams.{StreamLoads, text_of_streams}
use Rattle.cqf_program_plans.specs.Reserving.{requests_at, requests_in}

-- what is read
abbrev loaded : Domain → List AccessLoad → List (Option Handed) → List Asked → LoadedInput
loaded d access handed streams = record { domain = d; access = access; handed = handed; streams = streams }

-- of a network in which a station has an access link
pub loaded_is : (network : NetworkDomain) (text : List ℕ) (d : Domain) (edge : EdgeFlowsText) (access : List AccessLoad) (requests : List PacedRequest) →
    d ≡ domain_of network → edges_of_part network text ≡ Ok edge → access ≡ access_loads network d.cycle_time edge.handed edge.flows →
    requests_at d edge.flows ≡ Ok (map paced_text requests) →
    loaded_by_access network text ≡ Ok (record { domain = d; access = access; handed = edge.handed; streams = map asked_paced requests })
loaded_is network text d edge access requests same edges_are access_is requests_are =
    let taken : access_loads network (domain_of network).cycle_time edge.handed edge.flows ≡ access =
    ap (λ (x : Domain). access_loads network x.cycle_time edge.handed edge.flows) (sym same) ∙ sym access_is in
    let rest : List PacedText → Result LoadedInput (List ℕ) =
    λ rs. Ok (loaded (domain_of network) (access_loads network (domain_of network).cycle_time edge.handed edge.flows) edge.handed (map asked_by rs)) in
    both_give (edges_of_part network text) (loaded_from network) edge (loaded d access edge.handed (map asked_paced requests)) edges_are
    (both_give (requests_at (domain_of network) edge.flows) rest (map paced_text requests) (loaded d access edge.handed (map asked_paced requests))
    (ap (λ (x : Domain). requests_at x edge.flows) (sym same) ∙ requests_are)
    (λ i. Ok (loaded (sym same i) (taken i) edge.handed (asked_texts requests i))))

-- of one in which none has
pub without_is : (d : Domain) (text : List ℕ) (access : List AccessLoad) (handed : List (Option Handed)) (requests : List PacedRequest) → access ≡ [] →
    handed ≡ [] → requests_in d text ≡ Ok (map paced_text requests) →
    loaded_without d text ≡ Ok (record { domain = d; access = access; handed = handed; streams = map asked_paced requests })
without_is d text access handed requests none nothing requests_are =
    both_give (requests_in d text) (λ rs. Ok (loaded d [] [] (map asked_by rs))) (map paced_text requests)
    (loaded d access handed (map asked_paced requests)) requests_are (λ i. Ok (loaded d (sym none i) (sym nothing i) (asked_texts requests i)))

-- what is written of each stream on each link, for what is read
pub streams_are : (limits : Limits) (input : List ℕ) (found : LoadedInput) (rows : List Row) (loads : StreamLoads) → load_input limits input ≡ Ok found →
    listed_from found.domain [] found.streams ≡ Ok rows → loads ≡ stream_loads found rows → loaded_streams limits input ≡ Ok (text_of_streams loads)
streams_are limits input found rows loads read listed is =
    both_give (load_input limits input) streams_of found (text_of_streams loads) read
    (both_give (listed_from found.domain [] found.streams) (λ rs. Ok (text_of_streams (stream_loads found rs))) rows (text_of_streams loads) listed
    (ap {B = Result (List ℕ) (List ℕ)} (λ (l : StreamLoads). Ok (text_of_streams l)) (sym is)))

-- what latency reads of a network
pub plan_is : (network : NetworkDomain) (text : List ℕ) (d : Domain) (edge : EdgeFlowsText) (requests : List PacedRequest) → d ≡ domain_of network →
    open_edges_of_part network text ≡ Ok edge → requests_at d edge.flows ≡ Ok (map paced_text requests) →
    streams_for network text ≡ Ok (record { domain = d; streams = map asked_paced requests; deadlines = edge.deadlines; times = edge.times })
plan_is network text d edge requests same edges_are requests_are =
    let planned : Domain → List Asked → PlanFromTalkers =
    λ x streams. record { domain = x; streams = streams; deadlines = edge.deadlines; times = edge.times } in
    both_give (open_edges_of_part network text) (plan_from network) edge (planned d (map asked_paced requests)) edges_are
    (both_give (requests_at (domain_of network) edge.flows) (λ rs. Ok (plan_with network edge rs)) (map paced_text requests)
    (planned d (map asked_paced requests)) (ap (λ (x : Domain). requests_at x edge.flows) (sym same) ∙ requests_are)
    (λ i. Ok (planned (sym same i) (asked_texts requests i))))
