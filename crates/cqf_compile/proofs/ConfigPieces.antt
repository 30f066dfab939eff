-- The pieces of a configuration's lines, as they are put.
use Rattle.std.proofs.Common.{◌≡◌, ◌∙◌, ◌++◌, ℕ, List, [], ◌∷◌, Option, Some, append_assoc, ap, codes, option_map, slice_get, sym}
use Rattle.std.specs.Option.{option_map_or}
use Rattle.cqf_compile.specs.BridgeGates.{gate_at}
use Rattle.cqf_compile.specs.ConfigLines.{row_front}
use Rattle.cqf_compile.specs.ConfigText.{text_at, text_of_link}
use Rattle.cqf_gates.specs.GateListText.{text_of_entries}
use Rattle.cqf_gates.specs.StreamText.{text_of_stream_entries}
use Rattle.cqf_model.specs.declared.topology.Link.{Link}
use Rattle.cqf_model.specs.declared.topology.Row.{Row}
use Rattle.cqf_model.specs.Domain.{Domain, guard_by}
use Rattle.cqf_model.specs.GateList.{Entry, port_list}
use Rattle.cqf_model.specs.Network.{compiled_lists}
use Rattle.cqf_topology.specs.NodeNames.{ends_of_link, name_of_bridge, name_of_node}

-- the gate list of a link's port, as text
abbrev list_text : Domain → Link → List ℕ
list_text d link = text_of_entries (port_list d.cycle_time (guard_by d.guard link))

-- a link's line and its gate list, piece by piece
link_pieces : (d : Domain) (link : Link) → text_of_link d link ≡ codes "link " ++ (ends_of_link d link ++ 10 ∷ list_text d link)
link_pieces d link =
    ap (λ (line : List ℕ). line ++ 10 ∷ list_text d link)
    (append_assoc (codes "link " ++ name_of_bridge d link.from) (codes ">") (name_of_node d link.to)
    ∙ append_assoc (codes "link ") (name_of_bridge d link.from) (62 ∷ name_of_node d link.to))
    ∙ append_assoc (codes "link ") (ends_of_link d link) (10 ∷ list_text d link)

-- the text of a link that exists
pub port_pieces : (d : Domain) (l : ℕ) (link : Link) (list : List Entry) → slice_get d.links l ≡ Some link → list ≡ compiled_lists d l →
    option_map (text_of_link d) (slice_get d.links l) ≡ Some (codes "link " ++ (ends_of_link d link ++ 10 ∷ text_of_entries list))
port_pieces d l link list found is =
    let own : compiled_lists d l ≡ port_list d.cycle_time (guard_by d.guard link) =
    ap (λ (o : Option Link). port_list d.cycle_time (option_map_or (guard_by d.guard) o d.guard)) found in
    ap (option_map (text_of_link d)) found ∙ ap Some (link_pieces d link)
    ∙ ap (λ (entries : List Entry). Some (codes "link " ++ (ends_of_link d link ++ 10 ∷ text_of_entries entries))) (sym (is ∙ own))

-- a stream's line at a bridge and its gate, piece by piece
pub row_pieces : (d : Domain) (row : Row) (bridge : ℕ) →
    text_at d row bridge ≡ (row_front row ++ (name_of_bridge d bridge ++ 10 ∷ [])) ++ text_of_stream_entries (gate_at d row bridge)
row_pieces d row bridge =
    let front : List ℕ = row_front row in
    let name : List ℕ = name_of_bridge d bridge in
    let gate : List ℕ = text_of_stream_entries (gate_at d row bridge) in
    append_assoc front name (10 ∷ gate)
    ∙ sym (append_assoc front (name ++ 10 ∷ []) gate ∙ ap (λ (text : List ℕ). front ++ text) (append_assoc name (10 ∷ []) gate))
