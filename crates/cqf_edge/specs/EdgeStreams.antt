-- The streams of a network that is to be planned, at their edge bridges; or the first fault of their talkers.
use Rattle.std.specs.Prelude.{ℕ, ◌&&◌, List, [], ◌∷◌, Bool, true, false, Option, Some, None, Result, Ok, Err, if◌then◌else◌, is_none, map, option_and_then, unwrap_or}
use Rattle.std.specs.Option.{ForSome, option_map_or}
use Rattle.cqf_lists.specs.Results.{and_then}
use Rattle.cqf_topology.specs.Fields.{and_first}
use Rattle.cqf_units.specs.Name.{is_name}
use Rattle.cqf_network.specs.declared.talkers.Talker.{Talker}
use Rattle.cqf_network.specs.StreamsText.{StreamText, WantedText, Along, Between}
use Rattle.cqf_network.specs.NetworkDomain.{NetworkDomain}
use Rattle.cqf_edge.specs.declared.edge.AccessTimes.{AccessTimes}
use Rattle.cqf_edge.specs.declared.edge.Passage.{Passage}
use Rattle.cqf_edge.specs.declared.uses.AccessBound.{AccessBound}
use Rattle.cqf_edge.specs.declared.entrances.Entrance.{Entrance}
use Rattle.cqf_edge.specs.declared.faults.EdgeFault.{EdgeFault}
use Rattle.cqf_edge.specs.declared.faults.EdgeFault.TheVariants as fault
use Rattle.cqf_edge.specs.declared.faults.TalkerFault.{TalkerFault}
use Rattle.cqf_edge.specs.declared.faults.TalkerFault.TheVariants.{NoTalker, TwoAccessLinks, OtherEdge, OtherListeners}
use Rattle.cqf_edge.specs.declared.uses.Handed.{Handed}
use Rattle.cqf_traffic.specs.TrafficText.{TrafficText}
use Rattle.cqf_network.specs.declared.pacing.Pacing.{Pacing}
use Rattle.cqf_network.specs.declared.pacing.Pacing.TheVariants.{Given, InStep}
use Rattle.cqf_edge.specs.Edge.{IsWritten, left_by, steps_on, times_by, word_on}
use Rattle.cqf_edge.specs.EdgeFlows.{handed_by, passage_of}
use Rattle.cqf_edge.specs.Entrances.{IsEntrance, agrees_with, edge_name, entrance_of, listeners_agree}
use Rattle.cqf_edge.specs.Uses.{bounds_of, full_station}

-- where a stream of a talker enters. Its branches, if they are given, have to agree with the talker and with the listeners
abbrev pub entrance_by : NetworkDomain → StreamText → Entrance → WantedText → Result Entrance TalkerFault
entrance_by network stream entrance (Between from to) = Ok entrance
entrance_by network stream entrance (Along paths) =
    and_then (agrees_with network paths entrance) (λ _. and_then (listeners_agree paths stream.listeners) (λ _. Ok entrance))

abbrev pub entrance_with : NetworkDomain → StreamText → Talker → Result Entrance TalkerFault
entrance_with network stream talker = and_then (entrance_of network talker) (λ entrance. entrance_by network stream entrance stream.path)

-- whether a stream's path is open; and a stream's fault. `NoTalker` isn't one here if the stream's path is open and its text names no
-- bridge with the talker: that fault is found when the stream is settled
abbrev pub is_between : WantedText → Bool
is_between (Along paths) = false
is_between (Between from to) = true

abbrev pub or_later : StreamText → Talker → TalkerFault → Result (Option Entrance) EdgeFault
or_later stream talker NoTalker = if is_between stream.path && is_none talker.bridge then Ok None else Err (fault.Talker stream.name NoTalker)
or_later stream talker TwoAccessLinks = Err (fault.Talker stream.name TwoAccessLinks)
or_later stream talker OtherEdge = Err (fault.Talker stream.name OtherEdge)
or_later stream talker OtherListeners = Err (fault.Talker stream.name OtherListeners)

abbrev pub reported_now : StreamText → Talker → Result Entrance TalkerFault → Result (Option Entrance) EdgeFault
reported_now stream talker (Ok entrance) = Ok (Some entrance)
reported_now stream talker (Err why) = or_later stream talker why

-- where a stream enters, if its text has a talker. A stream whose name isn't well-formed is never settled, so it enters nowhere
abbrev pub entrance_of_stream : NetworkDomain → StreamText → Result (Option Entrance) EdgeFault
entrance_of_stream network stream =
    option_map_or (λ talker. if is_name stream.name then reported_now stream talker (entrance_with network stream talker) else Ok None) stream.talker (Ok None)

abbrev pub entrances_of : NetworkDomain → List StreamText → Result (List (Option Entrance)) EdgeFault
entrances_of network [] = Ok []
entrances_of network (stream ∷ streams) = and_first (entrance_of_stream network stream) (entrances_of network streams)

-- what a stream hands to an access link, given the gate overhead
abbrev pub handed_at : ℕ → StreamText → Option Entrance → Option Handed
handed_at overhead stream None = None
handed_at overhead stream (Some entrance) = handed_by overhead entrance (unwrap_or stream.octets 0) stream.shortest stream.traffic

abbrev pub handed_at_each : ℕ → List StreamText → List (Option Entrance) → List (Option Handed)
handed_at_each overhead [] entrances = []
handed_at_each overhead (stream ∷ streams) [] = []
handed_at_each overhead (stream ∷ streams) (entrance ∷ entrances) = handed_at overhead stream entrance ∷ handed_at_each overhead streams entrances

-- the path of a stream from its edge bridge on: an open path begins at the bridge where the stream enters
abbrev pub path_at_edge : NetworkDomain → Entrance → WantedText → WantedText
path_at_edge network entrance (Along paths) = Along paths
path_at_edge network entrance (Between from to) = Between (edge_name network entrance) to

-- its promise there. If the cycles in which it is offered are still to be chosen, each of its frames has to come in one of these cycles
abbrev pub word_at : Pacing → Passage → Option TrafficText
word_at (Given every phase) p = word_on p
word_at InStep p = steps_on p

-- the stream there, with what is left of its deadline and with its promise there. A stream that enters nowhere is as it was
abbrev pub deadline_at_edge : Option Passage → Option ℕ → Option ℕ
deadline_at_edge None deadline = deadline
deadline_at_edge (Some p) deadline = left_by (times_by p) deadline

abbrev pub traffic_at_edge : Option Passage → Pacing → Option TrafficText → Option TrafficText
traffic_at_edge None pacing traffic = traffic
traffic_at_edge (Some p) pacing traffic = word_at pacing p

abbrev pub stream_at : NetworkDomain → Entrance → Option Passage → StreamText → StreamText
stream_at network entrance passage stream = record {
  name = stream.name;
  octets = stream.octets;
  pacing = stream.pacing;
  path = path_at_edge network entrance stream.path;
  talker = stream.talker;
  listeners = stream.listeners;
  deadline = deadline_at_edge passage stream.deadline;
  traffic = traffic_at_edge passage stream.pacing stream.traffic;
  shortest = stream.shortest;
}

abbrev pub stream_at_edge : NetworkDomain → Option Entrance → Option Passage → StreamText → StreamText
stream_at_edge network None passage stream = stream
stream_at_edge network (Some entrance) passage stream = stream_at network entrance passage stream

abbrev pub streams_at_edge : NetworkDomain → List (Option Entrance) → List (Option Passage) → List StreamText → List StreamText
streams_at_edge network entrances ps [] = []
streams_at_edge network [] ps (stream ∷ streams) = []
streams_at_edge network (entrance ∷ entrances) [] (stream ∷ streams) = []
streams_at_edge network (entrance ∷ entrances) (p ∷ ps) (stream ∷ streams) =
    stream_at_edge network entrance p stream ∷ streams_at_edge network entrances ps streams

-- all streams there, the times of their frames from the hand-over to there, and the station of the first access link that is full
pub record EdgeStreamsText : Type 0 where
  pub streams : List StreamText
  pub times : List (Option AccessTimes)
  pub full : Option (List ℕ)

abbrev pub streams_by : NetworkDomain → List StreamText → List (Option Entrance) → List (Option Handed) → List AccessBound → EdgeStreamsText
streams_by network all entrances handed bounds = record {
  streams = streams_at_edge network entrances (map (passage_of network bounds) handed) all;
  times = map (option_and_then times_by) (map (passage_of network bounds) handed);
  full = full_station network bounds;
}

abbrev pub streams_from : NetworkDomain → List StreamText → List (Option Entrance) → List (Option Handed) → EdgeStreamsText
streams_from network all entrances handed = streams_by network all entrances handed (bounds_of network handed)

abbrev pub edge_streams : NetworkDomain → List StreamText → Result EdgeStreamsText EdgeFault
edge_streams network all =
    and_then (entrances_of network all) (λ entrances. Ok (streams_from network all entrances (handed_at_each network.overhead all entrances)))

-- a stream's jitter and offset are in the ranges that a text may have
abbrev pub IsWrittenStream : StreamText → Type 0
IsWrittenStream stream = ForSome stream.traffic IsWritten

-- a stream enters at a bridge or by an access link of the network, or nowhere
abbrev pub IsEntranceOne : NetworkDomain → Option Entrance → Type 0
IsEntranceOne network one = ForSome one (IsEntrance network)
