-- What was read is the content of the input.
use Rattle.std.proofs.Common.{◌≡◌, ◌∙◌, ℕ, List, Result, Ok, map, ap}
use Rattle.cqf_lists.specs.Results.{and_then}
use Rattle.cqf_model.specs.declared.limits.Limits.{Limits}
use Rattle.cqf_model.specs.Domain.{Domain}
use Rattle.cqf_text.specs.Lines.{lines_of}
use Rattle.cqf_program_scenario.specs.Networks.{domain_of_part}
use Rattle.cqf_topology.specs.declared.paced.PacedRequest.{PacedRequest}
use Rattle.cqf_topology.specs.PacedText.{paced_text, paced_of_text}
use Rattle.cqf_admission.specs.Asking.{asked_by, asked_paced}
use Rattle.cqf_admission.specs.Script.{Called, administrators, script_of}
use Rattle.cqf_program_scenario.proofs.AskedTexts.{asked_texts}
use Rattle.cqf_program_scenario.specs.Lines.{script_line, streams_line}
use Rattle.cqf_program_scenario.specs.Parts.{RunTexts}
use Rattle.cqf_output.specs.Stops.{or_line}
use Rattle.cqf_program_scenario.specs.Scenario.{Scenario, calls_in, frames_of_part, scenario_after, scenario_of}

-- the calls that were read are the script's
pub calls_in-is : (cycles : ℕ) (texts : RunTexts) (requests : List PacedRequest) → paced_of_text texts.streams ≡ Ok (map paced_text requests) →
    calls_in cycles texts ≡ or_line script_line (script_of (map asked_paced requests) cycles texts.script)
calls_in-is cycles texts requests streams =
    ap (λ found. and_then (or_line streams_line found) (λ asked. or_line script_line (script_of (map asked_by asked) cycles texts.script))) streams
    ∙ ap (λ asked. or_line script_line (script_of asked cycles texts.script)) (asked_texts requests)

-- and so is the scenario, with the domain and the streams that were read
pub scenario_of-is : (limits : Limits) (cycles : ℕ) (texts : RunTexts) (d : Domain) (requests : List PacedRequest) →
    domain_of_part limits texts.domain ≡ Ok d →
    paced_of_text texts.streams ≡ Ok (map paced_text requests) →
    scenario_of limits cycles texts ≡ scenario_after cycles d (map asked_paced requests) texts
scenario_of-is limits cycles texts d requests domain streams =
    let with_calls : Domain → List Called → Result Scenario (List ℕ) = λ d calls. and_then (frames_of_part d texts) (λ frames.
    Ok (record { domain = d; calls = calls; sealer = administrators (lines_of texts.script); offers = frames.0; background = frames.1 })) in
    ap (λ found. and_then found (λ d. and_then (calls_in cycles texts) (with_calls d))) domain
    ∙ ap (λ calls. and_then calls (with_calls d)) (calls_in-is cycles texts requests streams)
