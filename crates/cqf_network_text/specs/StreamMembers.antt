-- The tables that streams are written as. Their keys are in the order of their bytes.
use Rattle.std.specs.Prelude.{ℕ, pos, List, [], ◌∷◌, ◌&&◌, ◌==◌, Bool, if◌then◌else◌, Option, Some, None, map}
use Rattle.toml.specs.Data.{Data, string, integer, array, table, Members, no_members, member}
use Rattle.toml.specs.View.{items_of}
use Rattle.cqf_topology.specs.declared.keys.Key.TheVariants.{Deadline, Every, Name, Octets, Path, Paths, Phase}
use Rattle.cqf_topology.specs.Fields.{key_text}
use Rattle.cqf_topology.specs.PacedText.{PacedText}
use Rattle.cqf_traffic.specs.declared.keys.TrafficKey.{TrafficKey}
use Rattle.cqf_traffic.specs.declared.keys.TrafficKey.TheVariants.{Interval, Frames, Size, Jitter, Offset}
use Rattle.cqf_traffic.specs.Keys.{key_text as traffic_key_text}
use Rattle.cqf_traffic.specs.TrafficText.{TrafficText}
use Rattle.cqf_traffic.specs.FlowsText.{FlowText}
use Rattle.cqf_network_text.specs.DomainMembers.{number_then, put, put_some, some_then, texts_data}

-- a list of branches, as an array of arrays
abbrev pub branches_data : List (List (List ℕ)) → Data
branches_data paths = array (items_of (map texts_data paths))

-- whether a stream is offered in each cycle. Its table has both `every` and `phase` if it isn't, and neither if it is.
abbrev pub is_each_cycle : ℕ → ℕ → Bool
is_each_cycle every phase = (every == 1) && (phase == 0)

abbrev pub every_written : PacedText → Option ℕ
every_written request = if is_each_cycle request.every request.phase then None else Some request.every

abbrev pub phase_written : PacedText → Option ℕ
phase_written request = if is_each_cycle request.every request.phase then None else Some request.phase

-- the branches of a stream: a single branch is its `path`; none or several are its `paths`
abbrev pub branches_then : List (List (List ℕ)) → Members → Members
branches_then [] more = member (key_text Paths) (branches_data []) more
branches_then (path ∷ []) more = member (key_text Path) (texts_data path) more
branches_then (path ∷ other ∷ paths) more = member (key_text Paths) (branches_data (path ∷ other ∷ paths)) more

-- the number that traffic has at a key
abbrev pub number_of_traffic : TrafficKey → TrafficText → ℕ
number_of_traffic Interval t = t.interval
number_of_traffic Frames t = t.frames
number_of_traffic Size t = t.size
number_of_traffic Jitter t = t.jitter
number_of_traffic Offset t = t.offset

abbrev pub traffic_then : TrafficKey → TrafficText → Members → Members
traffic_then key t more = number_then (traffic_key_text key) (number_of_traffic key t) more

-- a stream's table: its request, deadline and traffic. Either all five keys of traffic are there, or none.
abbrev pub members_by : PacedText → Option ℕ → Option TrafficText → Members
members_by request deadline None =
    some_then Deadline deadline (
    some_then Every (every_written request) (
    member (key_text Name) (string request.name) (
    number_then (key_text Octets) request.octets (
    branches_then request.paths (
    some_then Phase (phase_written request) no_members)))))
members_by request deadline (Some t) =
    some_then Deadline deadline (
    some_then Every (every_written request) (
    traffic_then Frames t (
    traffic_then Interval t (
    traffic_then Jitter t (
    member (key_text Name) (string request.name) (
    number_then (key_text Octets) request.octets (
    traffic_then Offset t (
    branches_then request.paths (
    some_then Phase (phase_written request) (
    traffic_then Size t no_members))))))))))

abbrev pub stream_members : FlowText → Members
stream_members flow = members_by flow.0.0 flow.0.1 flow.1

-- the streams, in order
abbrev pub streams_data : List FlowText → Data
streams_data flows = array (items_of (map (λ flow. table (stream_members flow)) flows))

-- the same values, put into a table one after the other
abbrev pub put_branches : List (List (List ℕ)) → Members → Members
put_branches [] members = put (key_text Paths) (branches_data []) members
put_branches (path ∷ []) members = put (key_text Path) (texts_data path) members
put_branches (path ∷ other ∷ paths) members = put (key_text Paths) (branches_data (path ∷ other ∷ paths)) members

abbrev pub put_pace : PacedText → Members → Members
put_pace request members = put_some Phase (phase_written request) (put_some Every (every_written request) members)

abbrev pub put_request : PacedText → Members → Members
put_request request members =
    put_branches request.paths (put_pace request (put (key_text Octets) (integer (pos request.octets)) (put (key_text Name) (string request.name) members)))

abbrev pub put_number : TrafficKey → TrafficText → Members → Members
put_number key t members = put (traffic_key_text key) (integer (pos (number_of_traffic key t))) members

abbrev pub put_traffic : Option TrafficText → Members → Members
put_traffic None members = members
put_traffic (Some t) members = put_number Offset t (put_number Jitter t (put_number Size t (put_number Frames t (put_number Interval t members))))
