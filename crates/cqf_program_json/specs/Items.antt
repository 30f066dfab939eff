-- What the lines of an object give, read one by one, and that this is what is compiled.
use Rattle.std.specs.Prelude.{ℕ, ◌≡◌, ◌<◌, ◌≤◌, ◌^◌, ◌==◌, ◌++◌, All, IsTrue, List, [], ◌∷◌, Option, Some, None, codes, if◌then◌else◌, length, map}
use Rattle.std.specs.Prelude.{option_map}
use Rattle.std.specs.List.{flat_map}
use Rattle.std.specs.Option.{option_and_then, option_map_or, option_or}
use Rattle.cqf_lists.specs.Lists.{each_below}
use Rattle.cqf_addressing.specs.declared.links.LinkInterfaces.{LinkInterfaces}
use Rattle.cqf_addressing.specs.declared.streams.StreamAddress.{StreamAddress}
use Rattle.cqf_addressing.specs.Interface.{is_interface}
use Rattle.cqf_addressing.specs.Links.{far_interface, near_interface}
use Rattle.cqf_addressing.specs.Streams.{gate_index}
use Rattle.cqf_admission.specs.ActiveCycles.{IsGoodPace}
use Rattle.cqf_compile.specs.BridgeGates.{gate_at}
use Rattle.cqf_model.specs.declared.gates.StreamEntry.{StreamEntry}
use Rattle.cqf_model.specs.declared.topology.Row.{Row}
use Rattle.cqf_model.specs.Domain.{Domain, is_text, leaves}
use Rattle.cqf_model.specs.GateList.{Entry}
use Rattle.cqf_model.specs.Network.{compiled_lists}
use Rattle.cqf_model.specs.Limits.{most_reserved}
use Rattle.cqf_program_json.specs.Text.{json_text}
use Rattle.cqf_program_tc.specs.Rows.{leaves_bridge}
use Rattle.cqf_text.specs.Decimal.{decimal_value}
use Rattle.cqf_text.specs.Lines.{lines_of}
use Rattle.cqf_topology.specs.DomainText.{IsDomain}
use Rattle.cqf_topology.specs.NodeNames.{name_of_bridge, name_of_link}
use Rattle.cqf_units.specs.Name.{is_name}

-- an item that a line gives: a bridge begins, with its name; a port, with its link; an entry of the port's list, with states and interval;
-- a stream, with its name; the index of the stream's gate; an entry of the gate's list
pub data Item : Type 0 where
  AtBridge : List ℕ → Item
  AtPort : List ℕ → Item
  Opens : Entry → Item
  AtStream : List ℕ → Item
  AtGate : ℕ → Item
  Passes : StreamEntry → Item

-- ---- the parts of a line

-- the rest of a line after a prefix, if the line begins with this prefix
abbrev pub following : List ℕ → List ℕ → Option (List ℕ)
following [] line = Some line
following (x ∷ front) [] = None
following (x ∷ front) (y ∷ line) = if x == y then following front line else None

-- the part of a line before the first occurrence of a byte, and the part after it
abbrev pub up_to : ℕ → List ℕ → List ℕ
up_to byte [] = []
up_to byte (x ∷ line) = if x == byte then [] else x ∷ up_to byte line

abbrev pub past : ℕ → List ℕ → List ℕ
past byte [] = []
past byte (x ∷ line) = if x == byte then line else past byte line

-- a step of reading, followed by the next one
abbrev pub next : {A B : Type 0} → Option A → (A → Option B) → Option B
next found step = option_and_then step found

-- the number before the first occurrence of a byte
abbrev pub number_up_to : ℕ → List ℕ → Option ℕ
number_up_to byte line = decimal_value (up_to byte line)

-- a number or `null`
abbrev pub if_number : List ℕ → Option (Option ℕ)
if_number text = if is_text text (codes "null") then Some None else option_map Some (decimal_value text)

-- ---- the items

abbrev pub bridge_item : List ℕ → Option Item
bridge_item line = option_map (λ name. AtBridge (up_to 34 name)) (following (codes "      \"bridge\": \"") line)

abbrev pub port_item : List ℕ → Option Item
port_item line = option_map (λ name. AtPort (up_to 34 name)) (following (codes "          \"link\": \"") line)

abbrev pub stream_item : List ℕ → Option Item
stream_item line = option_map (λ name. AtStream (up_to 34 name)) (following (codes "          \"stream\": \"") line)

abbrev pub gate_item : List ℕ → Option Item
gate_item line =
    next (following (codes "          \"StreamGateInstance\": ") line) (λ index.
    option_map AtGate (number_up_to 44 index))

-- an entry of a port's list: the states are read up to a comma, and the interval up to a blank
abbrev pub opens_item : List ℕ → Option Item
opens_item line =
    next (following (codes "            { \"operationName\": \"SetGateStates\", \"gateStatesValue\": ") line) (λ at_states.
    next (number_up_to 44 at_states) (λ states.
    next (following (codes " \"timeIntervalValue\": ") (past 44 at_states)) (λ at_interval.
    option_map (λ interval. Opens (states, interval)) (number_up_to 32 at_interval))))

-- an entry of a gate's list in which frames may pass, and an entry in which none may
abbrev pub passes_item : List ℕ → Option Item
passes_item line =
    next (following (codes "            { \"operationName\": \"SetGateAndIPV\", \"StreamGateState\": \"open\", \"IPV\": ") line) (λ at_ipv.
    next (number_up_to 44 at_ipv) (λ ipv.
    next (following (codes " \"timeIntervalValue\": ") (past 44 at_ipv)) (λ at_interval.
    next (number_up_to 44 at_interval) (λ interval.
    next (following (codes " \"IntervalOctetMax\": ") (past 44 at_interval)) (λ at_most.
    option_map (λ most. Passes (record { ipv = ipv; interval = interval; octet_max = most })) (if_number (up_to 32 at_most)))))))

abbrev pub shut_item : List ℕ → Option Item
shut_item line =
    next (following (codes "            { \"operationName\": \"SetGateAndIPV\", \"StreamGateState\": \"closed\", \"IPV\": null, \"timeIntervalValue\": ") line)
    (λ at_interval.
    option_map (λ interval. Passes (record { ipv = 6; interval = interval; octet_max = Some 0 })) (number_up_to 44 at_interval))

-- the item that a line gives, if it gives one
abbrev pub item_of : List ℕ → Option Item
item_of line =
    option_or (bridge_item line) (option_or (port_item line) (option_or (stream_item line) (option_or (gate_item line)
    (option_or (opens_item line) (option_or (passes_item line) (shut_item line))))))

abbrev pub items_in : List ℕ → List Item
items_in line = option_map_or (λ item. item ∷ []) (item_of line) []

-- the items that the lines of a text give
abbrev pub items_of : List ℕ → List Item
items_of text = flat_map items_in (lines_of text)

-- ---- what is due

-- the items due for a link that leaves the bridge: its port, with the entries of the list to which the port is compiled
abbrev pub port_items : Domain → ℕ → ℕ → List Item
port_items d bridge link =
    if leaves d link bridge then AtPort (name_of_link d link) ∷ map Opens (compiled_lists d link) else []

-- the items due for a stream that leaves the bridge: its gate's index, and the entries of the list to which its gate is compiled there
abbrev pub stream_items : Domain → List StreamAddress → ℕ → Row → List Item
stream_items d addresses bridge row =
    if leaves_bridge d bridge row then AtStream row.name ∷ (AtGate (gate_index addresses row.no) ∷ map Passes (gate_at d row bridge)) else []

-- the items due for a bridge: its links by number, and its streams by number
abbrev pub bridge_items : Domain → List StreamAddress → List Row → ℕ → List Item
bridge_items d addresses rows bridge =
    AtBridge (name_of_bridge d bridge)
    ∷ (each_below (port_items d bridge) (length d.links) ++ flat_map (stream_items d addresses bridge) rows)

abbrev pub items_due : Domain → List StreamAddress → List Row → List Item
items_due d addresses rows = each_below (bridge_items d addresses rows) (length d.bridges)

-- ---- the law

-- a row of a held stream: its name has the form of a name, so nothing in it is escaped, its pace is good, and its numbers are in range
pub record IsHeldRow (addresses : List StreamAddress) (row : Row) : Type 0 where
  pub named : IsTrue (is_name row.name)
  pub paced : IsGoodPace row.pace
  pub some : 0 < row.octets
  pub few : row.octets ≤ most_reserved
  pub indexed : gate_index addresses row.no < 2 ^ 64

-- the names of interfaces have the form of such names, so nothing in them is escaped
abbrev pub IsInterface : Option (List ℕ) → Type 0
IsInterface None = Unit {0}
IsInterface (Some name) = IsTrue (is_interface name)

abbrev pub AreNamed : List LinkInterfaces → Type 0
AreNamed links = (link : ℕ) → IsInterface (near_interface links link) × IsInterface (far_interface links link)

-- the lines of an object give what is compiled, in order and nothing else
abbrev pub JsonHoldsTheLists : Type 0
JsonHoldsTheLists = (d : Domain) (addresses : List StreamAddress) (links : List LinkInterfaces) (rows : List Row) → IsDomain d → AreNamed links →
    All (IsHeldRow addresses) rows → items_of (json_text d addresses links rows) ≡ items_due d addresses rows
