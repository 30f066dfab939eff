-- The object of a domain and its streams. Its names are those of the managed objects of IEEE Std 802.1Q-2018, 12.29.1 for ports and 12.31
-- for stream filters and gates, and of IEEE Std 802.1CB-2017, clause 9, for the identification of streams' frames.
use Rattle.std.specs.Prelude.{ℕ, ◌++◌, List, [], ◌∷◌, Option, Some, None, codes, decimal, filter, if◌then◌else◌, length, map, true}
use Rattle.cqf_lists.specs.Lists.{each_below}
use Rattle.cqf_addressing.specs.declared.links.LinkInterfaces.{LinkInterfaces}
use Rattle.cqf_addressing.specs.declared.streams.StreamAddress.{StreamAddress}
use Rattle.cqf_addressing.specs.Links.{far_interface, near_interface}
use Rattle.cqf_addressing.specs.Mac.{mac_text}
use Rattle.cqf_addressing.specs.Streams.{gate_index, mac_of_stream, vlan_of_stream}
use Rattle.cqf_compile.specs.BridgeGates.{gate_at, ingress_at}
use Rattle.cqf_gates.specs.StreamText.{is_shut}
use Rattle.cqf_model.specs.declared.gates.StreamEntry.{StreamEntry}
use Rattle.cqf_model.specs.declared.topology.Row.{Row}
use Rattle.cqf_model.specs.Domain.{Domain, leaves}
use Rattle.cqf_model.specs.GateList.{Entry, round_of}
use Rattle.cqf_model.specs.Network.{compiled_lists}
use Rattle.cqf_model.specs.StreamGate.{gate_round}
use Rattle.cqf_program_json.specs.Arrays.{array, elements, listed, name_or_null, number_or_null, quoted}
use Rattle.cqf_program_tc.specs.Rows.{leaves_bridge}
use Rattle.cqf_topology.specs.NodeNames.{name_of_bridge, name_of_link}

-- ---- a port

-- an entry of its list: states, in which bit k is class k, and an interval in nanoseconds
abbrev pub port_entry : Entry → List ℕ
port_entry entry =
    codes "            { \"operationName\": \"SetGateStates\", \"gateStatesValue\": "
    ++ (decimal entry.0 ++ (codes ", \"timeIntervalValue\": " ++ (decimal entry.1 ++ codes " }")))

abbrev pub port_entries : List Entry → List ℕ
port_entries entries = listed true (map port_entry entries)

-- its list
abbrev pub port_list_text : List Entry → List ℕ
port_list_text entries =
    codes "          \"AdminControlListLength\": "
    ++ (decimal (length entries) ++ (codes ",\n          \"AdminControlList\": [" ++ elements (codes "          ") (map port_entry entries)))

-- its cycle time, in seconds as a fraction, and its base time: instant 0, so that the list begins at each multiple of its cycle time
abbrev pub port_round : List Entry → List ℕ
port_round entries =
    codes "          \"AdminCycleTime\": { \"numerator\": "
    ++ (decimal (round_of entries)
    ++ (codes ", \"denominator\": 1000000000 },\n"
    ++ codes "          \"AdminBaseTime\": { \"seconds\": 0, \"nanoseconds\": 0 }\n        }"))

-- its link, its interface if the domain's text names it, and its states before its list begins: classes 6 and 7 are closed
abbrev pub port_head : Domain → List LinkInterfaces → ℕ → List ℕ
port_head d links link =
    codes "        {\n          \"link\": \""
    ++ (name_of_link d link
    ++ (codes "\",\n          \"interface\": "
    ++ (name_or_null (near_interface links link)
    ++ codes ",\n          \"GateEnabled\": true,\n          \"AdminGateStates\": 63,\n")))

abbrev pub port_with : Domain → List LinkInterfaces → ℕ → List Entry → List ℕ
port_with d links link entries = port_head d links link ++ (port_list_text entries ++ (codes ",\n" ++ port_round entries))

abbrev pub port_text : Domain → List LinkInterfaces → ℕ → List ℕ
port_text d links link = port_with d links link (compiled_lists d link)

-- the links that leave a bridge, among those below a number; and the ports of a bridge, by link number
abbrev pub left_below : Domain → ℕ → ℕ → List ℕ
left_below d bridge count = each_below (λ link. if leaves d link bridge then link ∷ [] else []) count

abbrev pub ports_text : Domain → List LinkInterfaces → ℕ → List ℕ
ports_text d links bridge = array (codes "      ") (map (port_text d links) (left_below d bridge (length d.links)))

-- ---- a stream at a bridge

-- an entry of its gate's list in which frames may pass, with their class as the internal priority value; and an entry in which none may
abbrev pub open_entry : StreamEntry → List ℕ
open_entry entry =
    codes "            { \"operationName\": \"SetGateAndIPV\", \"StreamGateState\": \"open\", \"IPV\": "
    ++ (decimal entry.ipv
    ++ (codes ", \"timeIntervalValue\": " ++ (decimal entry.interval ++ (codes ", \"IntervalOctetMax\": " ++ (number_or_null entry.octet_max ++ codes " }")))))

abbrev pub closed_entry : ℕ → List ℕ
closed_entry interval =
    codes "            { \"operationName\": \"SetGateAndIPV\", \"StreamGateState\": \"closed\", \"IPV\": null, \"timeIntervalValue\": "
    ++ (decimal interval ++ codes ", \"IntervalOctetMax\": null }")

abbrev pub gate_entry : StreamEntry → List ℕ
gate_entry entry = if is_shut entry.octet_max then closed_entry entry.interval else open_entry entry

abbrev pub gate_entries : List StreamEntry → List ℕ
gate_entries entries = listed true (map gate_entry entries)

-- the list
abbrev pub gate_list_text : List StreamEntry → List ℕ
gate_list_text entries =
    codes "          \"PSFPAdminControlListLength\": "
    ++ (decimal (length entries) ++ (codes ",\n          \"PSFPAdminControlList\": [" ++ elements (codes "          ") (map gate_entry entries)))

-- its cycle time and its base time, like those of a port
abbrev pub gate_round_text : List StreamEntry → List ℕ
gate_round_text entries =
    codes "          \"PSFPAdminCycleTime\": { \"numerator\": "
    ++ (decimal (gate_round entries)
    ++ (codes ", \"denominator\": 1000000000 },\n"
    ++ codes "          \"PSFPAdminBaseTime\": { \"seconds\": 0, \"nanoseconds\": 0 }\n        }"))

-- the link and the interface over which the stream arrives at the bridge; `null` if it arrives from its talker
abbrev pub ingress_name : Domain → Option ℕ → List ℕ
ingress_name d None = codes "null"
ingress_name d (Some link) = quoted (name_of_link d link)

abbrev pub ingress_interface : List LinkInterfaces → Option ℕ → List ℕ
ingress_interface links None = codes "null"
ingress_interface links (Some link) = name_or_null (far_interface links link)

abbrev pub stream_head : Domain → List LinkInterfaces → Row → Option ℕ → List ℕ
stream_head d links row ingress =
    codes "        {\n          \"stream\": \""
    ++ (row.name
    ++ (codes "\",\n          \"from\": " ++ (ingress_name d ingress ++ (codes ",\n          \"interface\": " ++ (ingress_interface links ingress ++ codes ",\n")))))

-- how its frames are identified, if the streams' text says so: by their destination address and their VLAN (null stream identification)
abbrev pub mac_or_null : Option (List ℕ) → List ℕ
mac_or_null None = codes "null"
mac_or_null (Some mac) = quoted (mac_text mac)

abbrev pub address_text : List StreamAddress → ℕ → List ℕ
address_text addresses number =
    codes "          \"tsnStreamIdHandle\": "
    ++ (decimal (gate_index addresses number)
    ++ (codes ",\n          \"tsnStreamIdIdentificationType\": 1,\n          \"tsnCpeNullDownDestMac\": "
    ++ (mac_or_null (mac_of_stream addresses number)
    ++ (codes ",\n          \"tsnCpeNullDownTagged\": \"tagged\",\n          \"tsnCpeNullDownVlan\": "
    ++ (number_or_null (vlan_of_stream addresses number) ++ codes ",\n")))))

-- its filter, which leads its frames to its gate for every priority. Handle, filter and gate have the same number
abbrev pub filter_text : ℕ → List ℕ
filter_text gate =
    codes "          \"StreamFilterInstance\": "
    ++ (decimal gate
    ++ (codes ",\n          \"StreamHandleSpec\": "
    ++ (decimal gate ++ (codes ",\n          \"PrioritySpec\": \"wildcard\",\n          \"StreamGateInstanceID\": " ++ (decimal gate ++ codes ",\n")))))

-- its gate, which is closed before its list begins
abbrev pub gate_head : ℕ → List ℕ
gate_head gate =
    codes "          \"StreamGateInstance\": "
    ++ (decimal gate ++ codes ",\n          \"PSFPGateEnabled\": true,\n          \"PSFPAdminGateStates\": \"closed\",\n")

abbrev pub gate_text : ℕ → List StreamEntry → List ℕ
gate_text gate entries = filter_text gate ++ (gate_head gate ++ (gate_list_text entries ++ (codes ",\n" ++ gate_round_text entries)))

abbrev pub stream_text : Domain → List StreamAddress → List LinkInterfaces → ℕ → Row → List ℕ
stream_text d addresses links bridge row =
    stream_head d links row (ingress_at d bridge row) ++ (address_text addresses row.no ++ gate_text (gate_index addresses row.no) (gate_at d row bridge))

-- the streams that leave a bridge, in order
abbrev pub streams_text : Domain → List StreamAddress → List LinkInterfaces → List Row → ℕ → List ℕ
streams_text d addresses links rows bridge =
    array (codes "      ") (map (stream_text d addresses links bridge) (filter (leaves_bridge d bridge) rows))

-- ---- the object

abbrev pub bridge_text : Domain → List StreamAddress → List LinkInterfaces → List Row → ℕ → List ℕ
bridge_text d addresses links rows bridge =
    codes "    {\n      \"bridge\": \""
    ++ (name_of_bridge d bridge
    ++ (codes "\",\n      \"ports\": "
    ++ (ports_text d links bridge ++ (codes ",\n      \"streams\": " ++ (streams_text d addresses links rows bridge ++ codes "\n    }")))))

-- the bridges of a domain, by number
abbrev pub numbers_below : ℕ → List ℕ
numbers_below count = each_below (λ number. number ∷ []) count

abbrev pub bridges_text : Domain → List StreamAddress → List LinkInterfaces → List Row → List ℕ
bridges_text d addresses links rows = array (codes "  ") (map (bridge_text d addresses links rows) (numbers_below (length d.bridges)))

-- the cycle time and the guard band in nanoseconds, and the bridges
abbrev pub json_text : Domain → List StreamAddress → List LinkInterfaces → List Row → List ℕ
json_text d addresses links rows =
    codes "{\n  \"cycle\": "
    ++ (decimal d.cycle_time
    ++ (codes ",\n  \"guard\": " ++ (decimal d.guard ++ (codes ",\n  \"bridges\": " ++ (bridges_text d addresses links rows ++ codes "\n}\n")))))
