-- The functions of the script that check everything before anything is changed, and that undo what was set. They are the same in each
-- script.
use Rattle.std.specs.Prelude.{ℕ, ◌++◌, List, codes}

-- whether one interface may lead to two nodes
abbrev pub agree_text : List ℕ
agree_text =
    codes "# whether one interface may lead to the nodes $1 and $2. A talker is a station, and its name is empty\nagree() {\n"
    ++ (codes "    [ \"$1\" != \"$2\" ] || return 0\n    case $bridges in\n    *\" $1 \"* | *\" $2 \"*) return 1 ;;\n    esac\n"
    ++ codes "    [ -z \"$1\" ] || [ -z \"$2\" ]\n}\n\n")

-- if the gates are in a chain other than 0, only a jump in chain 0 leads to them
abbrev pub jump_text : List ℕ
jump_text =
    codes "# if CHAIN isn't 0, a filter of chain 0 at the interface $2, which is $1, has to go on to it\njump() {\n"
    ++ (codes "    if [ \"$chain\" = 0 ] || [ \"$tc\" = echo ]; then return 0; fi\n"
    ++ (codes "    $tc filter show dev \"$2\" ingress chain 0 2>/dev/null | grep -Eq \"goto chain $chain( |\\$)\" ||\n"
    ++ codes "        refuse \"$1: no filter of chain 0 at $2 has goto chain $chain, so no frame would reach a gate: add one\"\n}\n\n"))

-- an interface is given, exists, and leads to one node
abbrev pub port_text : List ℕ
port_text =
    codes "# the variable $1 has to be the interface $2, which is there and leads to the node $3 and nowhere else: $4\nport() {\n    case $2 in\n"
    ++ (codes "    \"\") refuse \"$1 isn't set: $4\" ;;\n    *[[:space:]/]*) refuse \"$1: '$2' is no interface\" ;;\n    esac\n"
    ++ (codes "    shown=$($ip link show dev \"$2\" 2>/dev/null) || refuse \"$1: there is no interface $2\"\n    case $shown in\n"
    ++ (codes "    [0-9]*:*) at=${shown%%:*} ;;\n    *) at=$2 ;;\n    esac\n    for use in $used; do\n        case $use in\n"
    ++ (codes "        \"$at/\"*) agree \"${use##*/}\" \"$3\" || { use=${use#*/}; refuse \"$1: $2 is ${use%/*}'s interface, and leads to another node\"; }"
    ++ (codes " ;;\n        esac\n    done\n    used=\"$used $at/$1/$3\"\n    case $1/$ways in\n    OUT_* | *\" $at \"*) ;;\n    *)\n"
    ++ (codes "        jump \"$1\" \"$2\"\n        ways=\"$ways $at \" old=\"$old\n$(old_gates \"$2\")\"\n"
    ++ codes "        ;;\n    esac\n}\n\n"))))))

-- a stream's frames have an address and a VLAN that no other stream's frames have
abbrev pub frames_text : List ℕ
frames_text =
    codes "# the frames of stream $4 have to have an address MAC_$1, $2, and a VLAN VLAN_$1, $3, which no other stream has both. Their gate is $5\n"
    ++ (codes "frames() {\n"
    ++ (codes "    [ -n \"$2\" ] || refuse \"MAC_$1 isn't set: destination address of $4\"\n    [ -n \"$3\" ] || refuse \"VLAN_$1 isn't set: VLAN of $4\"\n"
    ++ (codes "    two='[0-9A-Fa-f][0-9A-Fa-f]'\n    # shellcheck disable=SC2254\n    case $2 in\n"
    ++ (codes "    00:00:00:00:00:00 | 01:80:[Cc]2:00:00:0?) refuse \"MAC_$1: $2 is no address that bridges forward to\" ;;\n"
    ++ (codes "    $two:$two:$two:$two:$two:$two) ;;\n    *) refuse \"MAC_$1: '$2' is no address as 01:00:5e:00:00:01\" ;;\n    esac\n    case $3 in\n"
    ++ (codes "    [1-9] | [1-9][0-9] | [1-9][0-9][0-9] | [1-3][0-9][0-9][0-9] | 40[0-8][0-9] | 409[0-4]) ;;\n"
    ++ (codes "    *) refuse \"VLAN_$1: '$3' is no VLAN, 1 to 4094\" ;;\n    esac\n    both=$(printf '%s' \"$2\" | tr A-F a-f)/$3\n    case $streams in\n"
    ++ (codes "    *\" $both \"*) refuse \"MAC_$1 and VLAN_$1 are another stream's too: $2 and $3\" ;;\n    esac\n"
    ++ codes "    streams=\"$streams $both \" gates=\"$gates $5\"\n}\n\n"))))))))

-- no other filter has a required gate. The instant at which the lists begin is printed, and from here on a failure is undone
abbrev pub ready_text : List ℕ
ready_text =
    codes "# no filter but those of an earlier plan may have a gate. From here on, what is set is taken back if a command fails\nready() {\n"
    ++ (codes "    for index in $gates; do\n        shown=$($tc actions get action gate index \"$index\" 2>/dev/null || :)\n        case $shown in\n"
    ++ (codes "        *gate-state*) shown=${shown##* ref } ;;\n        *) continue ;;\n        esac\n"
    ++ (codes "        [ \"${shown%% *}\" = \"$(printf '%s\\n' \"$old\" | grep -c \"^pref $index \")\" ] || refuse \"gate $index belongs to another"
    ++ codes " filter\"\n    done\n    echo \"# BASE is $BASE\"\n    trap take_back EXIT\n    trap 'exit 1' HUP INT TERM\n}\n\n")))

-- what this run has set is undone
abbrev pub take_back_text : List ℕ
take_back_text =
    codes "# takes back what this run has set, the last first\ntake_back() {\n    trap '' HUP INT TERM\n    set +e\n"
    ++ (codes "    end=\"what this run had set is taken back; what it replaced is gone\"\n    while [ -n \"$undo\" ]; do\n"
    ++ (codes "        # shellcheck disable=SC2086\n        $tc ${undo%%/*} || end=\"not all that this run had set is taken back\"\n"
    ++ codes "        undo=${undo#*/}\n    done\n    [ -z \"$object\" ] || rm -f \"$object\"\n    echo \"failed: $end\" >&2\n    exit 1\n}\n\n"))

-- all of them
abbrev pub checks_text : List ℕ
checks_text = agree_text ++ (jump_text ++ (port_text ++ (frames_text ++ (ready_text ++ take_back_text))))
