-- The function of a bridge in the script, line by line.
use Rattle.std.specs.Prelude.{ℕ, ◌++◌, ◌==◌, List, [], Bool, true, false, Option, Some, None, codes, decimal}
use Rattle.std.specs.Prelude.{if◌then◌else◌, is_some, length, not, option_map, slice_get, take}
use Rattle.std.specs.Option.{option_map_or}
use Rattle.std.specs.List.{flat_map, list_any}
use Rattle.cqf_lists.specs.Lists.{each_below}
use Rattle.cqf_model.specs.declared.topology.Hop.{Hop}
use Rattle.cqf_model.specs.declared.topology.Link.{Link}
use Rattle.cqf_model.specs.declared.topology.Row.{Row}
use Rattle.cqf_model.specs.Domain.{Domain, bridge_of, guard_by, leaves}
use Rattle.cqf_model.specs.GateList.{port_list}
use Rattle.cqf_model.specs.Table.{same_ingress}
use Rattle.cqf_topology.specs.NodeNames.{name_of_bridge, name_of_link}
use Rattle.cqf_compile.specs.BridgeGates.{first_hop, gate_at}
use Rattle.cqf_program_plans.specs.EndNames.{name_of_end}
use Rattle.cqf_program_tc.specs.Variables.{link_variable, stream_variable}
use Rattle.cqf_program_tc.specs.Words.{list_words, tx_words}

-- the variable of the interface over which a stream arrives, from the stream's own variable
abbrev pub in_variable : Domain → List ℕ → Option ℕ → List ℕ
in_variable d variable None = codes "TALKER_" ++ variable
in_variable d variable (Some link) = codes "IN_" ++ link_variable d link

-- whether a stream arrives at a bridge over a link
abbrev pub comes_by : Domain → ℕ → ℕ → Row → Bool
comes_by d bridge link row = option_map_or (λ (hop : Hop). same_ingress hop.from (Some link)) (first_hop d bridge row) false

-- whether none of the streams before arrives at the bridge this way; no two streams share a talker's interface
abbrev pub is_new : Domain → ℕ → List Row → Option ℕ → Bool
is_new d bridge before None = true
is_new d bridge before (Some link) = not (list_any (comes_by d bridge link) before)

-- the ingress by which a stream arrives at a bridge that it leaves, and whether that way is new
abbrev pub ingress_at : Domain → ℕ → List Row → Row → Option (Option ℕ × Bool)
ingress_at d bridge before row = option_map (λ (hop : Hop). (hop.from, is_new d bridge before hop.from)) (first_hop d bridge row)

-- the lines that end the script if a variable isn't set or has a bad value: the variable's name and value, the node to which the interface
-- leads, empty for a talker, and a description
abbrev pub out_need : Domain → ℕ → ℕ → List ℕ
out_need d bridge link =
    codes "    port OUT_"
    ++ (link_variable d link
    ++ (codes " \"${OUT_"
    ++ (link_variable d link
    ++ (codes ":-}\" "
    ++ (name_of_end d link
    ++ (codes " \"interface of " ++ (name_of_bridge d bridge ++ (codes " to " ++ (name_of_end d link ++ codes "\"\n")))))))))

abbrev pub link_need : Domain → ℕ → ℕ → List ℕ
link_need d bridge link =
    codes "    port IN_"
    ++ (link_variable d link
    ++ (codes " \"${IN_"
    ++ (link_variable d link
    ++ (codes ":-}\" "
    ++ (name_of_bridge d (bridge_of d link)
    ++ (codes " \"interface of " ++ (name_of_bridge d bridge ++ (codes " to " ++ (name_of_bridge d (bridge_of d link) ++ codes "\"\n")))))))))

abbrev pub ingress_need : Domain → ℕ → List ℕ → Row → Option ℕ → List ℕ
ingress_need d bridge variable row None =
    codes "    port TALKER_"
    ++ (variable
    ++ (codes " \"${TALKER_"
    ++ (variable
    ++ (codes ":-}\" \"\" \"interface of " ++ (name_of_bridge d bridge ++ (codes " to the talker of " ++ (row.name ++ codes "\"\n")))))))
ingress_need d bridge variable row (Some link) = link_need d bridge link

-- the same for the frames of a stream whose gate has this index
abbrev pub frame_needs : List ℕ → ℕ → Row → List ℕ
frame_needs variable gate row =
    codes "    frames "
    ++ (variable
    ++ (codes " \"${MAC_"
    ++ (variable ++ (codes ":-}\" \"${VLAN_" ++ (variable ++ (codes ":-}\" " ++ (row.name ++ (codes " " ++ (decimal gate ++ codes "\n")))))))))

-- the line that removes the gates of an earlier plan from the interface over which a stream arrives
abbrev pub ingress_clearing : Domain → List ℕ → Option ℕ → List ℕ
ingress_clearing d variable ingress = codes "    no_gates \"$" ++ (in_variable d variable ingress ++ codes "\"\n")

-- whether a link has a guard band of its own, and so a list of its own
abbrev pub has_own_guard : Link → Bool
has_own_guard link = is_some link.guard

-- the words of the list of a link with a guard band of its own, as the second parameter of a call; empty for another link
abbrev pub list_of_own : Domain → Link → List ℕ
list_of_own d link =
    if has_own_guard link then codes " \"" ++ (tx_words (port_list d.cycle_time (guard_by d.guard link)) ++ codes "\"") else []

abbrev pub own_list : Domain → ℕ → List ℕ
own_list d link = option_map_or (list_of_own d) (slice_get d.links link) []

-- the call that sets the list of a link that leaves the bridge
abbrev pub link_call : Domain → ℕ → List ℕ
link_call d link = codes "    link \"$OUT_" ++ (link_variable d link ++ (codes "\"" ++ own_list d link))

-- the lines of the link
abbrev pub link_lines : Domain → ℕ → List ℕ
link_lines d link = codes "    # link " ++ (decimal link ++ (codes " " ++ (name_of_link d link ++ (codes "\n" ++ (link_call d link ++ codes "\n")))))

-- the interfaces by which a stream leaves the bridge, in the order of its tree
abbrev pub out_variable : Domain → ℕ → Hop → List ℕ
out_variable d bridge hop = if leaves d hop.link bridge then codes " OUT_" ++ link_variable d hop.link else []

abbrev pub out_variables : Domain → ℕ → Row → List ℕ
out_variables d bridge row = flat_map (out_variable d bridge) row.tree.items

-- whether a stream pauses between two of its own cycles
abbrev pub pauses : Row → Bool
pauses row = not (row.pace.pause == 0)

-- the parameters of a call before the list of a stream's gate: the interface over which the stream arrives, the gate's index, and the
-- frames
abbrev pub gate_target : Domain → List ℕ → ℕ → Option ℕ → List ℕ
gate_target d variable gate ingress =
    in_variable d variable ingress
    ++ (codes "\" " ++ (decimal gate ++ (codes " \"$MAC_" ++ (variable ++ (codes "\" \"$VLAN_" ++ (variable ++ codes "\""))))))

-- the call that sets the gate of a stream that is offered in each cycle and arrives this way, with the octets of its reservation
abbrev pub plain_call : Domain → List ℕ → ℕ → Row → Option ℕ → List ℕ
plain_call d variable gate row ingress = codes "    gate \"$" ++ (gate_target d variable gate ingress ++ (codes " " ++ decimal row.octets))

-- the same for a stream that pauses, with its gate's list at the bridge
abbrev pub list_call : Domain → ℕ → List ℕ → ℕ → Row → Option ℕ → List ℕ
list_call d bridge variable gate row ingress = codes "    gate_by_list \"$" ++ (gate_target d variable gate ingress ++ list_words (gate_at d row bridge))

abbrev pub gate_call : Domain → ℕ → List ℕ → ℕ → Row → Option ℕ → List ℕ
gate_call d bridge variable gate row ingress = if pauses row then list_call d bridge variable gate row ingress else plain_call d variable gate row ingress

-- the lines of the stream: the interfaces by which it leaves, and its gate
abbrev pub stream_lines : Domain → ℕ → List ℕ → ℕ → Row → Option ℕ → List ℕ
stream_lines d bridge variable gate row ingress =
    codes "    # stream "
    ++ (decimal row.no
    ++ (codes " " ++ (row.name ++ (codes ", leaves by" ++ (out_variables d bridge row ++ (codes "\n" ++ (gate_call d bridge variable gate row ingress ++ codes "\n")))))))

-- a text for each link that leaves the bridge, by number
abbrev pub if_left : Domain → ℕ → (ℕ → List ℕ) → ℕ → List ℕ
if_left d bridge text link = if leaves d link bridge then text link else []

abbrev pub each_link : Domain → ℕ → (ℕ → List ℕ) → List ℕ
each_link d bridge text = each_below (if_left d bridge text) (length d.links)

-- a text for each stream that leaves the bridge, by number, each made with the streams before it
abbrev pub stream_at : (List Row → Row → List ℕ) → List Row → ℕ → List ℕ
stream_at text rows index = option_map_or (text (take index rows)) (slice_get rows index) []

abbrev pub each_stream : (List Row → Row → List ℕ) → List Row → List ℕ
each_stream text rows = each_below (stream_at text rows) (length rows)

-- what a stream needs that isn't needed before it: the interface over which it arrives, its frames' destination address and their VLAN
abbrev pub needs_by : Domain → ℕ → List ℕ → ℕ → Row → (Option ℕ × Bool) → List ℕ
needs_by d bridge variable gate row ingress = (if ingress.1 then ingress_need d bridge variable row ingress.0 else []) ++ frame_needs variable gate row

-- the needs of a stream at the bridge; rows are the rows of all streams, and gates the indexes of their gates by number
abbrev pub stream_needs : Domain → (ℕ → ℕ) → List Row → ℕ → List Row → Row → List ℕ
stream_needs d gates rows bridge before row =
    option_map_or (needs_by d bridge (stream_variable rows row) (gates row.no) row) (ingress_at d bridge before row) []

-- each interface over which streams arrive is cleared once
abbrev pub clearing_by : Domain → List ℕ → (Option ℕ × Bool) → List ℕ
clearing_by d variable ingress = if ingress.1 then ingress_clearing d variable ingress.0 else []

abbrev pub stream_clearing : Domain → List Row → ℕ → List Row → Row → List ℕ
stream_clearing d rows bridge before row = option_map_or (clearing_by d (stream_variable rows row)) (ingress_at d bridge before row) []

-- the lines of a stream, if it leaves the bridge
abbrev pub stream_gates : Domain → (ℕ → ℕ) → List Row → ℕ → Row → List ℕ
stream_gates d gates rows bridge row =
    option_map_or (λ (hop : Hop). stream_lines d bridge (stream_variable rows row) (gates row.no) row hop.from) (first_hop d bridge row) []

-- the function of a bridge. First it requires each variable once, in the order in which it uses them, so that a bridge that lacks one is
-- not changed. Then come the end of the checks, the clearing of the interfaces over which streams arrive, its links, and its streams
abbrev pub bridge_text : Domain → (ℕ → ℕ) → List Row → ℕ → List ℕ
bridge_text d gates rows bridge =
    codes "bridge_"
    ++ (decimal bridge
    ++ (codes "() {\n    # "
    ++ (name_of_bridge d bridge
    ++ (codes "\n"
    ++ (each_link d bridge (out_need d bridge)
    ++ (each_stream (stream_needs d gates rows bridge) rows
    ++ (codes "    ready\n"
    ++ (each_stream (stream_clearing d rows bridge) rows
    ++ (each_link d bridge (link_lines d) ++ (flat_map (stream_gates d gates rows bridge) rows ++ codes "}\n"))))))))))
