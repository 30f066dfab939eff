-- The parts that a run isn't given, made: calls that admit all streams before cycle 0, and the offers of their talkers. A made part is a
-- text, as if it had been read.
use Rattle.cqf_model.specs.declared.limits.Limits.{Limits}
use Rattle.std.specs.Prelude.{ℕ, ◌-◌, ◌*◌, ◌++◌, Bool, true, false, List, [], ◌∷◌, Option, Some, None, Result, Ok, codes, if◌then◌else◌, length, map, max, fold}
use Rattle.std.specs.List.{flat_map}
use Rattle.cqf_lists.specs.Results.{and_then}
use Rattle.cqf_model.specs.Domain.{Domain}
use Rattle.cqf_model.specs.History.{Asked}
use Rattle.cqf_text.specs.Parts.{parts_of}
use Rattle.cqf_topology.specs.PlannedText.{planned_of_text}
use Rattle.cqf_topology.specs.PacedText.{paced_of_text}
use Rattle.cqf_admission.specs.Asking.{asked_by}
use Rattle.cqf_admission.specs.Script.{script_of}
use Rattle.cqf_traffic.specs.FlowsText.{FlowText}
use Rattle.cqf_output.specs.Stops.{or_line}
use Rattle.cqf_program_words.specs.Composing.{first_text, text_after}
use Rattle.cqf_program_words.specs.declared.words.Job.{Job}
use Rattle.cqf_program_words.specs.declared.words.Job.TheVariants as job
use Rattle.cqf_program_files.specs.Front.{begins_as_offers, cycles_of}
use Rattle.cqf_program_scenario.specs.Lines.{script_line, streams_line}
use Rattle.cqf_program_scenario.specs.Networks.{domain_of, network_of_part}
use Rattle.cqf_network.specs.NetworkDomain.{NetworkDomain}
use Rattle.cqf_program_plans.specs.Edges.{has_access}
use Rattle.cqf_program_plans.specs.Compile.Output.{admitted_from}
use Rattle.cqf_program_plans.specs.Latency.Input.{asked_in as asked_by_planned}
use Rattle.cqf_program_offers.specs.OffersOutput.{asked_in, flows_of_part, flows_of_parts, offered_of}

-- the script that admits streams before cycle 0
abbrev pub call_of : Asked → List ℕ
call_of asked = codes "0 admit " ++ (asked.name ++ codes "\n")

abbrev pub script_text : List Asked → List ℕ
script_text streams = flat_map call_of streams

-- the same if all are admitted as by `compile`; or the line of the first that is refused
abbrev pub made_calls : Domain → List Asked → Result (List ℕ) (List ℕ)
made_calls d streams = and_then (admitted_from d [] 1 streams) (λ entries. Ok (script_text streams))

-- the most bridges on a path of a stream: each of its branches has its bridges, and then the listener
abbrev pub bridges_on : List (List (List ℕ)) → ℕ
bridges_on paths = fold (λ most path. max most (length path - 1)) 0 paths

abbrev pub bridges_of : List FlowText → ℕ
bridges_of flows = fold (λ most flow. max most (bridges_on flow.0.0.paths)) 0 flows

-- what streams offer so early that all of it arrives within `cycles` cycles
abbrev pub made_offers : Domain → ℕ → List FlowText → Result (List ℕ) (List ℕ)
made_offers d cycles flows = offered_of d ((cycles - bridges_of flows) * d.cycle_time) None flows

-- parts as an input
abbrev pub input_of : List ℕ → List (List ℕ) → List ℕ
input_of first rest = first_text false first ++ flat_map text_after rest

-- the requests for the streams of a part of a network. If their deadlines are read and a station has an access link, they are those at
-- their edge bridges
abbrev pub asked_at_edges : NetworkDomain → List ℕ → Result (List Asked) (List ℕ)
asked_at_edges network text = and_then (flows_of_part network text) (λ flows. Ok (map asked_in flows))

abbrev pub asked_by_deadlines : List ℕ → Result (List Asked) (List ℕ)
asked_by_deadlines text = and_then (or_line streams_line (planned_of_text text)) (λ streams. Ok (asked_by_planned streams))

abbrev pub asked_of_part : NetworkDomain → Bool → List ℕ → Result (List Asked) (List ℕ)
asked_of_part network true text = if has_access network then asked_at_edges network text else asked_by_deadlines text
asked_of_part network false text = and_then (or_line streams_line (paced_of_text text)) (λ streams. Ok (map asked_by streams))

-- a plan alone: calls and offers are made
abbrev pub with_both : Limits → ℕ → List ℕ → List ℕ → Result (List ℕ) (List ℕ)
with_both limits cycles domain streams =
    and_then (flows_of_parts limits domain streams) (λ found.
    and_then (made_calls found.0 (map asked_in found.1)) (λ script.
    and_then (made_offers found.0 cycles found.1) (λ offers. Ok (input_of domain (streams ∷ script ∷ offers ∷ [])))))

-- a plan and a script: offers are made
abbrev pub with_offers : Limits → ℕ → List ℕ → List ℕ → List ℕ → Result (List ℕ) (List ℕ)
with_offers limits cycles domain streams script =
    and_then (flows_of_parts limits domain streams) (λ found.
    and_then (or_line script_line (script_of (map asked_in found.1) cycles script)) (λ calls.
    and_then (made_offers found.0 cycles found.1) (λ offers. Ok (input_of domain (streams ∷ script ∷ offers ∷ [])))))

-- the script that is made for a network and the streams of a part for it; and for a plan and offers, with or without a following part
abbrev pub calls_of_network : NetworkDomain → Bool → List ℕ → Result (List ℕ) (List ℕ)
calls_of_network network planned streams = and_then (asked_of_part network planned streams) (made_calls (domain_of network))

abbrev pub calls_for : Limits → Bool → List ℕ → List ℕ → Result (List ℕ) (List ℕ)
calls_for limits planned domain streams = and_then (network_of_part limits domain) (λ network. calls_of_network network planned streams)

abbrev pub with_calls : Limits → Bool → List ℕ → List ℕ → List (List ℕ) → Result (List ℕ) (List ℕ)
with_calls limits planned domain streams rest = and_then (calls_for limits planned domain streams) (λ script. Ok (input_of domain (streams ∷ script ∷ rest)))

-- the input of parts over `cycles` cycles, with the missing parts added; or the line of the first fault of the parts from which these are
-- made. All other inputs stay unchanged
abbrev pub made_of_parts : Limits → Bool → ℕ → List ℕ → List (List ℕ) → Result (List ℕ) (List ℕ)
made_of_parts limits planned cycles input (domain ∷ streams ∷ []) = with_both limits cycles domain streams
made_of_parts limits planned cycles input (domain ∷ streams ∷ third ∷ []) =
    if begins_as_offers third then with_calls limits planned domain streams (third ∷ []) else with_offers limits cycles domain streams third
made_of_parts limits planned cycles input (domain ∷ streams ∷ third ∷ fourth ∷ []) =
    if begins_as_offers third then with_calls limits planned domain streams (third ∷ fourth ∷ []) else Ok input
made_of_parts limits planned cycles input parts = Ok input

-- whether a job reads deadlines
abbrev pub is_planned : Job → Bool
is_planned (job.Deliveries cycles) = true
is_planned (job.Check cycles) = true
is_planned (job.Summary cycles) = true
is_planned it = false

-- the input of a job: if the job reads a script, the missing parts are added
abbrev pub made_over : Limits → Bool → Option ℕ → List ℕ → Result (List ℕ) (List ℕ)
made_over limits planned None input = Ok input
made_over limits planned (Some cycles) input = made_of_parts limits planned cycles input (parts_of input)

abbrev pub made_for : Limits → Job → List ℕ → Result (List ℕ) (List ℕ)
made_for limits it input = made_over limits (is_planned it) (cycles_of it) input
