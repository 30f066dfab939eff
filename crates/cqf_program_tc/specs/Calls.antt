-- What a script sets at a bridge, read back from its lines.
use Rattle.std.specs.Prelude.{ℕ, ◌≡◌, ◌<◌, ◌++◌, ◌||◌, Bool, true, List, [], ◌∷◌, codes, decimal, filter, if◌then◌else◌, length, take}
use Rattle.std.specs.List.{flat_map, list_any}
use Rattle.std.specs.Option.{option_map_or}
use Rattle.cqf_lists.specs.Lists.{each_below}
use Rattle.cqf_text.specs.Lines.{lines_of}
use Rattle.cqf_model.specs.declared.topology.Hop.{Hop}
use Rattle.cqf_model.specs.declared.topology.Row.{Row}
use Rattle.cqf_model.specs.Domain.{Domain, is_text, leaves}
use Rattle.cqf_topology.specs.DomainText.{IsDomain}
use Rattle.cqf_admission.specs.Grants.{HaveNames}
use Rattle.cqf_compile.specs.BridgeGates.{first_hop}
use Rattle.cqf_program_tc.specs.Bridge.{gate_call, link_call, pauses}
use Rattle.cqf_program_tc.specs.Variables.{stream_variable}
use Rattle.cqf_program_tc.specs.Text.{by_list_lines, gate_command, list_command, tc_text, undo_gate, undo_list}

-- the lines after the first line equal to this one
abbrev pub lines_after : List ℕ → List (List ℕ) → List (List ℕ)
lines_after line [] = []
lines_after line (first ∷ lines) = if is_text first line then lines else lines_after line lines

-- the lines before the first line equal to this one
abbrev pub lines_before : List ℕ → List (List ℕ) → List (List ℕ)
lines_before line [] = []
lines_before line (first ∷ lines) = if is_text first line then [] else first ∷ lines_before line lines

-- the line at which a function of the script begins; and its lines: those after it, up to the line `}`
abbrev pub head_of : List ℕ → List ℕ
head_of name = name ++ codes "() {"

abbrev pub lines_of_function : List ℕ → List ℕ → List (List ℕ)
lines_of_function name script = lines_before (codes "}") (lines_after (head_of name) (lines_of script))

-- whether a line calls the function that sets the list of a link, or one that sets the gate of a stream
abbrev pub begins_with : List ℕ → List ℕ → Bool
begins_with front line = is_text (take (length front) line) front

abbrev pub is_call : List ℕ → Bool
is_call line = begins_with (codes "    link ") line || (begins_with (codes "    gate ") line || begins_with (codes "    gate_by_list ") line)

-- the calls that a script makes at a bridge, in order
abbrev pub function_of_bridge : ℕ → List ℕ
function_of_bridge bridge = codes "bridge_" ++ decimal bridge

abbrev pub calls_at : ℕ → List ℕ → List (List ℕ)
calls_at bridge script = filter is_call (lines_of_function (function_of_bridge bridge) script)

-- the calls due at a bridge: one call for each link that leaves it, by number, followed by one call for each stream that leaves it, with
-- the ingress by which the stream arrives and the index of its gate
abbrev pub link_calls : Domain → ℕ → ℕ → List (List ℕ)
link_calls d bridge link = if leaves d link bridge then link_call d link ∷ [] else []

abbrev pub gate_calls : Domain → (ℕ → ℕ) → List Row → ℕ → Row → List (List ℕ)
gate_calls d gates rows bridge row =
    option_map_or (λ (hop : Hop). gate_call d bridge (stream_variable rows row) (gates row.no) row hop.from ∷ []) (first_hop d bridge row) []

abbrev pub calls_due : Domain → (ℕ → ℕ) → List Row → ℕ → List (List ℕ)
calls_due d gates rows bridge = each_below (link_calls d bridge) (length d.links) ++ flat_map (gate_calls d gates rows bridge) rows

-- the script makes exactly the calls due at each bridge. Its functions set the list to which each port is compiled, and the gate's list
-- with the octets of the call or, if a stream pauses, the list of the call
pub record IsScriptOf (d : Domain) (software : Bool) (gates : ℕ → ℕ) (rows : List Row) (script : List ℕ) : Type 0 where
  pub list : lines_of_function (codes "link") script ≡ list_command d software ∷ undo_list ∷ []
  pub gate : lines_of_function (codes "gate") script ≡ gate_command d software ∷ undo_gate ∷ []
  pub by_list : list_any pauses rows ≡ true → lines_of_function (codes "gate_by_list") script ≡ by_list_lines software
  pub calls : (bridge : ℕ) → bridge < length d.bridges → calls_at bridge script ≡ calls_due d gates rows bridge

-- in every domain and with rows whose names have the form of names, so that no name is read as a line, the script is such a script
abbrev pub ScriptsCallWhatIsDue : Type 0
ScriptsCallWhatIsDue =
    (d : Domain) (software : Bool) (gates : ℕ → ℕ) (rows : List Row) → IsDomain d → HaveNames rows →
    IsScriptOf d software gates rows (tc_text d software gates rows)
