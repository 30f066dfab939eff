-- The script that `compile --format tc` writes: a POSIX shell script that sets the gates of a bridge by `tc`.
use Rattle.std.specs.Prelude.{ℕ, ◌*◌, ◌++◌, ◌==◌, Bool, List, [], ◌∷◌, codes, decimal, if◌then◌else◌, length, nat_le}
use Rattle.std.specs.List.{list_any}
use Rattle.cqf_lists.specs.Lists.{each_below}
use Rattle.cqf_model.specs.declared.topology.Row.{Row}
use Rattle.cqf_model.specs.Domain.{Domain}
use Rattle.cqf_model.specs.GateList.{port_list}
use Rattle.cqf_model.specs.Limits.{most_every, streams_within}
use Rattle.cqf_topology.specs.NodeNames.{name_of_bridge}
use Rattle.cqf_program_tc.specs.Bridge.{bridge_text, has_own_guard, pauses}
use Rattle.cqf_program_tc.specs.Checks.{checks_text}
use Rattle.cqf_program_tc.specs.Program.{program_text}
use Rattle.cqf_program_tc.specs.Words.{gate_words, tx_words}

-- the number of cycles after which all lists begin anew: two, or if a stream pauses the number after which all paces repeat
abbrev pub rounds_in : List Row → ℕ
rounds_in rows = if list_any pauses rows then most_every else 2

-- the instant at which the lists begin is a multiple of this number of nanoseconds
abbrev pub multiple : Domain → List Row → List ℕ
multiple d rows = decimal (rounds_in rows * d.cycle_time)

-- what the script is, and its variables
abbrev pub usage_text : Domain → List Row → List ℕ
usage_text d rows =
    codes "#!/bin/sh\n# Written by cqf compile --format tc. Each bridge runs it as root with its own name as the only argument, its links up and\n"
    ++ (codes "# its clock in step with the others'.\n"
    ++ (codes "#   OUT_A_B   the interface of A where the link from A to B begins, and IN_A_B the one of B where it ends\n"
    ++ (codes "#   TALKER_S  the interface that receives stream S from its talker, if S begins at that bridge\n"
    ++ (codes "#   MAC_S and VLAN_S   the destination address and the VLAN of the frames of stream S, which the talker has to tag\n"
    ++ (codes "#   BASE      an instant of the PTP clock in ns, the same at each bridge: the lists begin at the first multiple of "
    ++ (multiple d rows
    ++ (codes " at or\n#             after it, which the script prints. An even cycle begins there\n"
    ++ (codes "#   TC, IP and CHAIN   may be set: commands in place of tc and ip, the filter chain of the gates. TC=echo shows what would be\n"
    ++ (codes "#             done; interfaces are then looked up only if IP is set\n"
    ++ (codes "# A variable has _ for each - of a name. If an earlier link or stream has the same, _N with its own number follows, as in\n"
    ++ (codes "# OUT_A_B_N7; each variable is explained where it is used.\n"
    ++ (codes "# An interface has one neighbour. So OUT_A_B and IN_B_A may be the same, TALKER_R and TALKER_S if one talker has both\n"
    ++ (codes "# streams, OUT_A_B and TALKER_S if B is the talker of S; no others may.\n"
    ++ (codes "# All of this is checked before anything is changed. If a command fails then, what this run has set is taken back; what it\n"
    ++ codes "# replaced is gone.\n# Forwarding is yours: a stream may leave a bridge by the interfaces that its line here names, and by no others.\n"))))))))))))))

-- the notes on the gates of Linux
abbrev pub offload_notes : List ℕ
offload_notes =
    codes "# A gate in software doesn't give frames the class in its list (IPV), so the filters are for hardware alone (skip_sw). If\n"
    ++ codes "# an interface can't offload taprio, the script fails, and it undoes what it has set.\n"

abbrev pub software_notes : List ℕ
software_notes =
    codes "# A gate in software doesn't give frames the class in its list (IPV), so a program before each gate does, by the cycle. It\n"
    ++ codes "# needs Linux 6.1, a little-endian machine and a tc with libbpf, and the interfaces need eight transmit queues.\n"

abbrev pub whole_notes : List ℕ
whole_notes =
    codes "# Octets of a gate are those of whole frames, from the destination address to the FCS. Linux counts 22 fewer a frame, without\n"
    ++ codes "# the header's 14, the tag's 4 and the FCS's 4: frames of 1500, 1500 and 64 octets pass a gate of 3000. One that it drops counts.\n"

abbrev pub less_notes : List ℕ
less_notes =
    codes "# Octets of a gate are those of frames, from the destination address to the FCS, without those of gate-overhead. Linux leaves out\n"
    ++ codes "# 22 of each: the header's 14, the tag's 4 and the FCS's 4. A frame that it drops counts.\n"

abbrev pub notes_by : Bool → Bool → List ℕ
notes_by whole software =
    (if whole then whole_notes else less_notes)
    ++ ((if software then software_notes else offload_notes)
    ++ (codes "# What the bridge itself sends, as IPv6 neighbour discovery and MLD, may have class 7: keep it off these interfaces.\n"
    ++ codes "# If CHAIN isn't 0, only a filter of yours in chain 0 with goto chain CHAIN leads frames to the gates.\n"))

abbrev pub notes_text : Domain → Bool → List ℕ
notes_text d software = notes_by (d.overhead == 0) software

-- the names of the bridges, each after a space
abbrev pub name_text : Domain → ℕ → List ℕ
name_text d bridge = codes " " ++ name_of_bridge d bridge

abbrev pub names_text : Domain → List ℕ
names_text d = each_below (name_text d) (length d.bridges)

-- the commands, the names of the bridges, and the variables in which the script records interfaces, gates and streams
abbrev pub opening_text : Domain → List ℕ
opening_text d =
    codes "set -euf\nexport LC_ALL=C\ntc=${TC:-tc} ip=${IP:-} chain=${CHAIN:-0} bridges=\""
    ++ (names_text d
    ++ (codes " \"\nused=\"\" ways=\"\" old=\"\" streams=\"\" gates=\"\" undo=\"\" object=\"\"\n\n# ends the script before anything is changed\nrefuse() {\n"
    ++ codes "    printf '%s\\n' \"$*\" >&2\n    exit 1\n}\n\n"))

-- a bridge and an instant must be given; the lists begin at the next such multiple, which is below 2^63
abbrev pub given_text : Domain → List Row → List ℕ
given_text d rows =
    codes "[ \"$#\" -eq 1 ] || refuse \"name one bridge:$bridges\"\ncase ${BASE:=} in\n"
    ++ (codes "\"\" | *[!0-9]* | 0?* | 9?????????????????? | ????????????????????*) refuse \"BASE: '$BASE' is no instant in ns"
    ++ (codes " below 9000000000000000000\" ;;\nesac\nBASE=$((BASE + ("
    ++ (multiple d rows
    ++ (codes " - BASE % "
    ++ (multiple d rows
    ++ (codes ") % "
    ++ (multiple d rows
    ++ (codes "))\ncase $chain in\n*[!0-9]* | 0?* | ??????????*) refuse \"CHAIN: '$chain' is no number of a chain\" ;;\nesac\n"
    ++ (codes "[ -n \"$ip\" ] || if [ \"$tc\" = echo ]; then ip=:; else ip=ip; fi\n"
    ++ (codes "command -v \"${tc%% *}\" >/dev/null || refuse \"TC: there is no command $tc\"\n"
    ++ codes "command -v \"${ip%% *}\" >/dev/null || refuse \"IP: there is no command $ip\"\n\n"))))))))))

-- the words after a port's list: the interface executes it, or it follows the clock that gates in software use
abbrev pub port_end : Bool → List ℕ
port_end software = if software then codes " clockid CLOCK_TAI" else codes " flags 0x2"

-- the words of the list of each link that has no guard band of its own
abbrev pub common_words : Domain → List ℕ
common_words d = tx_words (port_list d.cycle_time d.guard)

-- the words of the second parameter, if it is given, and else the common ones
abbrev pub given_words : Domain → List ℕ
given_words d = codes " ${2:-" ++ (common_words d ++ codes "}")

-- the words in the command: if some link has a guard band of its own, those of the second parameter, if it is given
abbrev pub port_words : Domain → List ℕ
port_words d = if list_any has_own_guard d.links then given_words d else common_words d

-- the command that sets the transmission gates of an interface; priority, traffic class and queue are the same for 0 to 7
abbrev pub list_command : Domain → Bool → List ℕ
list_command d software =
    codes "    $tc qdisc replace dev \"$1\" parent root handle 100: taprio num_tc 8 map 0 1 2 3 4 5 6 7 0 0 0 0 0 0 0 0"
    ++ (codes " queues 1@0 1@1 1@2 1@3 1@4 1@5 1@6 1@7 base-time \"$BASE\"" ++ (port_words d ++ port_end software))

-- the words after it that record how it is undone
abbrev pub undo_list : List ℕ
undo_list = codes "    undo=\"qdisc del dev $1 root/$undo\""

-- a comment for script checkers if some link has a guard band of its own: that parameter must be split into its words
abbrev pub link_note : Domain → List ℕ
link_note d = if list_any has_own_guard d.links then codes "# shellcheck disable=SC2086\n" else []

abbrev pub link_text : Domain → Bool → List ℕ
link_text d software =
    codes "# the transmission gates of the interface $1\nlink() {\n" ++ (list_command d software ++ (codes "\n" ++ (undo_list ++ codes "\n}\n\n")))

-- the greatest index of a gate of an earlier plan: 1,024, or 16,384 if the domain's limits allow more than 1,024 streams
abbrev pub last_gate : Domain → List ℕ
last_gate d = if nat_le (streams_within d.limits) 1024 then codes "1024" else codes "16384"

-- the gates of an earlier plan at an interface
abbrev pub old_gates_text : List ℕ → List ℕ
old_gates_text last =
    codes "# the stream gates of an earlier plan at the interface $1, a line each, in words of tc: the filters whose action is a gate, alone or\n"
    ++ (codes "# after a program of bpf, and whose pref is the gate's index, 1 to "
    ++ (last
    ++ (codes "\nold_gates() {\n"
    ++ (codes "    $tc filter show dev \"$1\" ingress chain \"$chain\" 2>/dev/null | awk '\n        function tell() {\n"
    ++ (codes "            if ((actions == 1 || actions == 2 && first == \"bpf\") && kind == \"gate\" && pref == number && pref >= 1 && pref <= "
    ++ (last
    ++ (codes " && handle != \"\")\n"
    ++ (codes "                print \"pref\", pref, \"protocol\", protocol, \"handle\", handle, filter\n        }\n        $1 == \"filter\" {\n"
    ++ (codes "            tell()\n            actions = 0; kind = \"\"; number = 0; pref = 0; handle = \"\"\n            for (i = 2; i < NF; i++) {\n"
    ++ (codes "                if ($i == \"protocol\") protocol = $(i + 1)\n                if ($i == \"pref\") { pref = $(i + 1); filter = $(i + 2) }\n"
    ++ (codes "                if ($i == \"handle\") handle = $(i + 1)\n            }\n        }\n"
    ++ (codes "        $1 == \"action\" && $2 == \"order\" { actions++; first = kind; kind = $4 }\n"
    ++ (codes "        $1 == \"number\" && kind == \"\" && /gate-state/ { kind = \"gate\" }\n        $1 == \"index\" { number = $2 }\n"
    ++ codes "        END { tell() }'\n}\n\n")))))))))))))

-- removes the gates of an earlier plan from an interface
abbrev pub no_gates_text : List ℕ
no_gates_text =
    codes "# takes the stream gates of an earlier plan off the interface $1\nno_gates() {\n"
    ++ (codes "    if $tc qdisc add dev \"$1\" clsact 2>/dev/null; then undo=\"qdisc del dev $1 clsact/$undo\"; fi\n"
    ++ (codes "    old_gates \"$1\" | while read -r words; do\n        # shellcheck disable=SC2086\n"
    ++ codes "        $tc filter del dev \"$1\" ingress chain \"$chain\" $words </dev/null\n    done\n}\n\n"))

-- the words of a filter between its kind and its keys, and the words of its action before the gate: in software a program gives frames
-- their class, 6 or 7 by the cycle
abbrev pub filter_words : Bool → List ℕ
filter_words software = if software then [] else codes " skip_sw"

abbrev pub class_words : Bool → List ℕ
class_words software = if software then codes " action bpf object-file \"$object\" section tc pipe" else []

-- the command that sets a stream's gate at an interface
abbrev pub gate_command : Domain → Bool → List ℕ
gate_command d software =
    codes "    $tc filter add dev \"$1\" ingress chain \"$chain\" protocol 802.1Q pref \"$2\" handle \"$2\" flower"
    ++ (filter_words software
    ++ (codes " dst_mac \"$3\" vlan_id \"$4\""
    ++ (class_words software ++ (codes " action gate index \"$2\" base-time \"$BASE\"" ++ gate_words d.cycle_time))))

-- the words after it that record how it is undone
abbrev pub undo_gate : List ℕ
undo_gate = codes "    undo=\"filter del dev $1 ingress chain $chain protocol 802.1Q pref $2 handle $2 flower/$undo\""

abbrev pub tc_gate_text : Domain → Bool → List ℕ
tc_gate_text d software =
    codes "# stream gate $2 at the interface $1: address $3, VLAN $4, at most $5 octets a cycle\ngate() {\n"
    ++ (gate_command d software ++ (codes "\n" ++ (undo_gate ++ codes "\n}\n\n")))

-- the command that sets the gate of a stream that pauses by the list passed to it
abbrev pub by_list_command : Bool → List ℕ
by_list_command software =
    codes "    $tc filter add dev \"$gate_at\" ingress chain \"$chain\" protocol 802.1Q pref \"$gate_no\" handle \"$gate_no\" flower"
    ++ (filter_words software
    ++ (codes " dst_mac \"$gate_mac\" vlan_id \"$gate_vlan\""
    ++ (class_words software ++ codes " action gate index \"$gate_no\" base-time \"$BASE\" \"$@\"")))

-- the lines of its function, and the function
abbrev pub by_list_lines : Bool → List (List ℕ)
by_list_lines software =
    codes "    gate_at=$1 gate_no=$2 gate_mac=$3 gate_vlan=$4"
    ∷ codes "    shift 4"
    ∷ by_list_command software
    ∷ codes "    undo=\"filter del dev $gate_at ingress chain $chain protocol 802.1Q pref $gate_no handle $gate_no flower/$undo\""
    ∷ []

abbrev pub by_list_text : Bool → List ℕ
by_list_text software =
    codes "# stream gate $2 at the interface $1: address $3, VLAN $4, and then the entries of its list\ngate_by_list() {\n"
    ++ (codes "    gate_at=$1 gate_no=$2 gate_mac=$3 gate_vlan=$4\n    shift 4\n"
    ++ (by_list_command software
    ++ codes "\n    undo=\"filter del dev $gate_at ingress chain $chain protocol 802.1Q pref $gate_no handle $gate_no flower/$undo\"\n}\n\n"))

-- the function is written if a stream pauses
abbrev pub list_gates_text : Bool → List Row → List ℕ
list_gates_text software rows = if list_any pauses rows then by_list_text software else []

-- one function per bridge, by number
abbrev pub bridges_text : Domain → (ℕ → ℕ) → List Row → List ℕ
bridges_text d gates rows = each_below (bridge_text d gates rows) (length d.bridges)

-- the function that is run is that of the bridge with the given name
abbrev pub choice_line : Domain → ℕ → List ℕ
choice_line d bridge = codes "\"" ++ (name_of_bridge d bridge ++ (codes "\") bridge_" ++ (decimal bridge ++ codes " ;;\n")))

-- in software the program of bpf is in a temporary file meanwhile
abbrev pub making_text : Bool → List ℕ
making_text software = if software then codes "\nobject=$(mktemp)\ntrap 'rm -f \"$object\"' EXIT\nprogram >\"$object\"\n" else []

abbrev pub removing_text : Bool → List ℕ
removing_text software = if software then codes "rm -f \"$object\"\n" else []

abbrev pub choice_text : Domain → Bool → List ℕ
choice_text d software =
    making_text software
    ++ (codes "\ncase \"$1\" in\n"
    ++ (each_below (choice_line d) (length d.bridges)
    ++ (codes "*) refuse \"there is no bridge $1:$bridges\" ;;\nesac\n" ++ (removing_text software ++ codes "trap - EXIT\n"))))

-- the functions that bridges call
abbrev pub functions_text : Domain → Bool → List Row → List ℕ
functions_text d software rows =
    checks_text
    ++ (program_text d software
    ++ (link_note d
    ++ (link_text d software ++ (old_gates_text (last_gate d) ++ (no_gates_text ++ (tc_gate_text d software ++ list_gates_text software rows))))))

-- the script of a domain and the rows of its streams, with the indexes of their gates by number, in hardware or in software
abbrev pub tc_text : Domain → Bool → (ℕ → ℕ) → List Row → List ℕ
tc_text d software gates rows =
    usage_text d rows
    ++ (notes_text d software
    ++ (opening_text d ++ (given_text d rows ++ (functions_text d software rows ++ (bridges_text d gates rows ++ choice_text d software)))))
