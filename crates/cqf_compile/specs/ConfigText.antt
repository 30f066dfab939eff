-- The configuration of a domain and its streams, as text.
use Rattle.std.specs.Prelude.{ℕ, List, ◌∷◌, ◌++◌, codes}
use Rattle.std.specs.Fmt.{decimal}
use Rattle.std.specs.List.{flat_map}
use Rattle.cqf_gates.specs.GateListText.{text_of_entries}
use Rattle.cqf_model.specs.declared.topology.Link.{Link}
use Rattle.cqf_model.specs.declared.topology.Row.{Row}
use Rattle.cqf_model.specs.Domain.{Domain, guard_by}
use Rattle.cqf_model.specs.GateList.{port_list}
use Rattle.cqf_model.specs.Table.{bridges_of}
use Rattle.cqf_topology.specs.NodeNames.{name_of_bridge, name_of_node}
use Rattle.cqf_gates.specs.StreamText.{text_of_stream_entries}
use Rattle.cqf_compile.specs.BridgeGates.{gate_at}

-- the line of a link, with its two ends
abbrev pub line_of_link : Domain → Link → List ℕ
line_of_link d link = codes "link " ++ name_of_bridge d link.from ++ codes ">" ++ name_of_node d link.to

-- a link's line, followed by the gate list of its port, by the link's guard band
abbrev pub text_of_link : Domain → Link → List ℕ
text_of_link d link = line_of_link d link ++ 10 ∷ text_of_entries (port_list d.cycle_time (guard_by d.guard link))

-- the links in order of number
abbrev pub texts_of_links : Domain → List ℕ
texts_of_links d = flat_map (text_of_link d) d.links

-- the line of a stream at a bridge
abbrev pub line_at : Domain → Row → ℕ → List ℕ
line_at d row bridge = codes "stream " ++ decimal row.no ++ codes " " ++ row.name ++ codes " bridge " ++ name_of_bridge d bridge

-- a stream's line at a bridge, followed by the stream's gate there
abbrev pub text_at : Domain → Row → ℕ → List ℕ
text_at d row bridge = line_at d row bridge ++ 10 ∷ text_of_stream_entries (gate_at d row bridge)

-- a stream at each bridge of its tree, each once, in the order in which the tree leaves them
abbrev pub text_of_row : Domain → Row → List ℕ
text_of_row d row = flat_map (text_at d row) (bridges_of d row)

-- the configuration: the links in order of number, followed by the streams of a table in order of number
abbrev pub config_text : Domain → List Row → List ℕ
config_text d rows = texts_of_links d ++ flat_map (text_of_row d) rows
