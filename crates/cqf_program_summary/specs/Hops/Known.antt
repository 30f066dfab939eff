-- Whether the stream and the frame that `hops` is to list exist.
use Rattle.cqf_model.specs.declared.limits.Limits.{Limits}
use Rattle.std.specs.Prelude.{ℕ, ◌++◌, ◌||◌, Bool, List, [], Option, Some, None, Result, Ok, bytes_eq, codes, decimal, if◌then◌else◌, length, map, nat_le}
use Rattle.std.specs.List.{list_any}
use Rattle.cqf_lists.specs.Lists.{or_else}
use Rattle.cqf_lists.specs.Results.{and_then, refuse}
use Rattle.cqf_units.specs.Name.{is_name}
use Rattle.cqf_model.specs.declared.frames.Offer.{Offer}
use Rattle.cqf_model.specs.History.{Asked}
use Rattle.cqf_text.specs.Parts.{parts_of}
use Rattle.cqf_topology.specs.PacedText.{paced_of_text}
use Rattle.cqf_admission.specs.Asking.{asked_by}
use Rattle.cqf_output.specs.Stops.{fault_line, or_line}
use Rattle.cqf_program_scenario.specs.Networks.{domain_of_part}
use Rattle.cqf_program_scenario.specs.Lines.{streams_line}
use Rattle.cqf_program_scenario.specs.Parts.{RunTexts, run_parts}
use Rattle.cqf_program_scenario.specs.Scenario.{Scenario, scenario_after}
use Rattle.cqf_program_summary.specs.Hops.Legs.{Wanted}

-- the scenario of the parts over some cycles, and the plan's streams; or the line of the parts' first fault
abbrev pub paced_scenario_of : Limits → ℕ → RunTexts → Result (Scenario × List Asked) (List ℕ)
paced_scenario_of limits cycles texts = and_then (domain_of_part limits texts.domain) (λ d.
    and_then (or_line streams_line (paced_of_text texts.streams)) (λ streams.
    and_then (scenario_after cycles d (map asked_by streams) texts) (λ scenario. Ok (scenario, map asked_by streams))))

-- the same for an input, or the line of its first fault
abbrev pub paced_scenario : Limits → ℕ → List ℕ → Result (Scenario × List Asked) (List ℕ)
paced_scenario limits cycles input = and_then (run_parts (parts_of input)) (paced_scenario_of limits cycles)

-- a stream of the plan has the name; an offer claims the name
abbrev pub is_planned : List Asked → List ℕ → Bool
is_planned streams name = list_any (λ (asked : Asked). bytes_eq asked.name name) streams

abbrev pub is_claimed : List Offer → List ℕ → Bool
is_claimed offers name = list_any (λ (offer : Offer). bytes_eq offer.stream name) offers

-- the line about a name that neither has; it shows the name only if the name has the form of one
abbrev pub name_shown : List ℕ → List ℕ
name_shown name = if is_name name then codes " " ++ name else []

abbrev pub unknown_stream_line : List ℕ → List ℕ
unknown_stream_line name = fault_line (codes "hops") (codes "UnknownStream" ++ name_shown name)

-- the line if no offer has the number
abbrev pub no_frame_line : ℕ → List ℕ
no_frame_line frame = fault_line (codes "hops") (codes "NoFrame " ++ decimal frame)

-- the line about a requested stream or frame that doesn't exist; the stream comes first
abbrev pub stream_refusal : List Asked → List Offer → Option (List ℕ) → Option (List ℕ)
stream_refusal streams offers None = None
stream_refusal streams offers (Some name) = if is_planned streams name || is_claimed offers name then None else Some (unknown_stream_line name)

abbrev pub frame_refusal : List Offer → Option ℕ → Option (List ℕ)
frame_refusal offers None = None
frame_refusal offers (Some frame) = if nat_le frame (length offers) then None else Some (no_frame_line frame)

abbrev pub wanted_refusal : List Asked → List Offer → Wanted → Option (List ℕ)
wanted_refusal streams offers wanted = or_else (stream_refusal streams offers wanted.stream) (frame_refusal offers wanted.frame)

-- the scenario of an input that has the wanted stream and frame; or the line of the input's first fault, or else of the
-- stream or frame that doesn't exist
abbrev pub wanted_of_scenario : Wanted → Scenario × List Asked → Result Scenario (List ℕ)
wanted_of_scenario wanted read = refuse (wanted_refusal read.1 read.0.offers wanted) (λ line. line) (Ok read.0)

abbrev pub wanted_scenario : Limits → ℕ → Wanted → List ℕ → Result Scenario (List ℕ)
wanted_scenario limits cycles wanted input = and_then (paced_scenario limits cycles input) (wanted_of_scenario wanted)
