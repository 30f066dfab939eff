-- The variable file of a bridge, which `compile --format env --bridge NAME` writes, to be filled in and read by a shell. For each variable
-- it has a line that says what the variable is, and then a line that sets it to the value from the network file, or to nothing.
use Rattle.std.specs.Prelude.{ℕ, ◌++◌, List, [], Bool, Option, Some, None, codes, decimal, if◌then◌else◌, option_map}
use Rattle.std.specs.Option.{option_map_or}
use Rattle.cqf_addressing.specs.declared.links.LinkInterfaces.{LinkInterfaces}
use Rattle.cqf_addressing.specs.declared.streams.StreamAddress.{StreamAddress}
use Rattle.cqf_addressing.specs.Links.{far_interface, near_interface}
use Rattle.cqf_addressing.specs.Mac.{mac_text}
use Rattle.cqf_addressing.specs.Streams.{mac_of_stream, vlan_of_stream}
use Rattle.cqf_model.specs.declared.topology.Row.{Row}
use Rattle.cqf_model.specs.Domain.{Domain, bridge_of}
use Rattle.cqf_topology.specs.NodeNames.{name_of_bridge}
use Rattle.cqf_program_plans.specs.EndNames.{name_of_end}
use Rattle.cqf_program_tc.specs.Bridge.{each_link, each_stream, ingress_at}
use Rattle.cqf_program_tc.specs.Variables.{link_variable, stream_variable}

-- a value, or nothing
abbrev pub value_text : Option (List ℕ) → List ℕ
value_text value = option_map_or (λ (text : List ℕ). text) value []

-- the destination address of the frames of the stream with this number, and their VLAN
abbrev pub mac_of : List StreamAddress → ℕ → List ℕ
mac_of addresses number = value_text (option_map mac_text (mac_of_stream addresses number))

abbrev pub vlan_of : List StreamAddress → ℕ → List ℕ
vlan_of addresses number = value_text (option_map decimal (vlan_of_stream addresses number))

-- the lines of the interface by which a link leaves the bridge, and of the one over which streams arrive from a link
abbrev pub out_lines : Domain → List LinkInterfaces → ℕ → ℕ → List ℕ
out_lines d interfaces bridge link =
    codes "# interface of "
    ++ (name_of_bridge d bridge
    ++ (codes " to "
    ++ (name_of_end d link
    ++ (codes "\nOUT_" ++ (link_variable d link ++ (codes "=" ++ (value_text (near_interface interfaces link) ++ codes "\n")))))))

abbrev pub in_lines : Domain → List LinkInterfaces → ℕ → ℕ → List ℕ
in_lines d interfaces bridge link =
    codes "# interface of "
    ++ (name_of_bridge d bridge
    ++ (codes " to "
    ++ (name_of_bridge d (bridge_of d link)
    ++ (codes "\nIN_" ++ (link_variable d link ++ (codes "=" ++ (value_text (far_interface interfaces link) ++ codes "\n")))))))

-- the lines of the interface over which a stream arrives
abbrev pub ingress_lines : Domain → List LinkInterfaces → ℕ → List ℕ → Row → Option ℕ → List ℕ
ingress_lines d interfaces bridge variable row None =
    codes "# interface of "
    ++ (name_of_bridge d bridge ++ (codes " to the talker of " ++ (row.name ++ (codes "\nTALKER_" ++ (variable ++ codes "=\n")))))
ingress_lines d interfaces bridge variable row (Some link) = in_lines d interfaces bridge link

-- the lines of a stream's frames
abbrev pub frame_lines : List StreamAddress → List ℕ → Row → List ℕ
frame_lines addresses variable row =
    codes "# destination address of "
    ++ (row.name
    ++ (codes "\nMAC_"
    ++ (variable
    ++ (codes "="
    ++ (mac_of addresses row.no
    ++ (codes "\n# VLAN of "
    ++ (row.name ++ (codes "\nVLAN_" ++ (variable ++ (codes "=" ++ (vlan_of addresses row.no ++ codes "\n")))))))))))

-- the lines of a stream that arrives this way
abbrev pub lines_by : Domain → List LinkInterfaces → List StreamAddress → ℕ → List ℕ → Row → (Option ℕ × Bool) → List ℕ
lines_by d interfaces addresses bridge variable row ingress =
    (if ingress.1 then ingress_lines d interfaces bridge variable row ingress.0 else []) ++ frame_lines addresses variable row

abbrev pub stream_env : Domain → List LinkInterfaces → List StreamAddress → List Row → ℕ → List Row → Row → List ℕ
stream_env d interfaces addresses rows bridge before row =
    option_map_or (lines_by d interfaces addresses bridge (stream_variable rows row) row) (ingress_at d bridge before row) []

-- what the file is, and the variables that hold for the whole script
abbrev pub head_text : Domain → ℕ → List ℕ
head_text d bridge =
    codes "# Variables of the bridge "
    ++ (name_of_bridge d bridge
    ++ (codes " for the script that cqf compile --format tc writes: fill them in, and\n# set -a; . ./FILE; sh SCRIPT "
    ++ (name_of_bridge d bridge
    ++ (codes "\n# instant of the PTP clock in ns from which on the lists begin, the same at each bridge\nBASE=\n"
    ++ codes "# filter chain of the gates, 0 if left out\nCHAIN=\n"))))

-- the file: the variables in the order in which the script requires them
abbrev pub env_text : Domain → List LinkInterfaces → List StreamAddress → List Row → ℕ → List ℕ
env_text d interfaces addresses rows bridge =
    head_text d bridge
    ++ (each_link d bridge (out_lines d interfaces bridge) ++ each_stream (stream_env d interfaces addresses rows bridge) rows)
