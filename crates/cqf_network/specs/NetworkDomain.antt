-- The domain of a network file, or the first fault of its text.
use Rattle.std.specs.Prelude.{ℕ, ◌≡◌, ◌*◌, ◌<◌, ◌≤◌, List, [], ◌∷◌, ◌||◌, All, AllPairs, Bool, IsTrue, filter, find, length, map, max, nat_lt, not}
use Rattle.std.specs.Prelude.{unwrap_or, Option, None, Result, Ok}
use Rattle.std.specs.List.{list_any}
use Rattle.std.specs.Option.{ForSome}
use Rattle.cqf_lists.specs.Results.{and_then, refuse}
use Rattle.cqf_units.specs.Name.{is_name}
use Rattle.cqf_model.specs.Domain.{Domain, guard_by}
use Rattle.cqf_model.specs.declared.limits.Limits.{Limits}
use Rattle.cqf_model.specs.Limits.{bridges_within, links_within, longest_cycle, most_overhead, stations_within}
use Rattle.cqf_model.specs.declared.topology.Link.{Link}
use Rattle.cqf_model.specs.declared.topology.Node.{Node}
use Rattle.cqf_model.specs.declared.topology.Node.TheVariants.{Bridge, Station}
use Rattle.cqf_topology.specs.declared.faults.DomainFault.TheVariants as domain
use Rattle.cqf_topology.specs.DomainText.{IsDomain, domain_with, first_taken, if_so, link_with}
use Rattle.cqf_topology.specs.LinkTimes.{AreReadTimes}
use Rattle.cqf_network.specs.declared.draft.NetworkLink.{NetworkLink}
use Rattle.cqf_network.specs.declared.domain.TalkerLink.{TalkerLink}
use Rattle.cqf_network.specs.declared.faults.NetworkFault.{NetworkFault}
use Rattle.cqf_network.specs.declared.faults.NetworkFault.TheVariants as fault
use Rattle.cqf_network.specs.Edges.{Edge, first_long_delay, first_long_gap, first_long_guard, first_long_sync, first_misplaced, first_twice}
use Rattle.cqf_network.specs.Edges.{is_talkers, joined, bridge_edge_count, reaches_each, talkers_of}
use Rattle.cqf_network.specs.NetworkText.{NetworkText, one_of_text, draft_of_text}

-- the domain of a network file: its limits, the candidates for the cycle time in order of preference, the guard band,
-- how far clocks may differ, the octets of a frame that gates don't count, names by number, the plan's links by number,
-- and the access links. Times are in nanoseconds
pub record NetworkDomain : Type 0 where
  pub limits : Limits
  pub candidates : List ℕ
  pub guard : ℕ
  pub sync : ℕ
  pub overhead : ℕ
  pub bridges : List (List ℕ)
  pub stations : List (List ℕ)
  pub links : List Link
  pub talkers : List TalkerLink

-- the plan's domain with a given cycle time, within the file's limits
abbrev pub domain_at : NetworkDomain → ℕ → Domain
domain_at network cycle_time =
    domain_with network.limits cycle_time network.guard network.sync network.overhead network.bridges network.stations network.links

-- the range of a cycle time, in nanoseconds
pub record IsCycleTime (cycle_time : ℕ) : Type 0 where
  pub least : 10000 ≤ cycle_time
  pub most : cycle_time ≤ longest_cycle

-- the longest guard band of the links; a link without its own has the given one
abbrev pub longest_of : ℕ → List Link → ℕ
longest_of guard [] = guard
longest_of guard (link ∷ links) = longest_of (max guard (guard_by guard link)) links

abbrev pub longest_guard : NetworkDomain → ℕ
longest_guard network = longest_of network.guard network.links

-- a cycle time is open: it is in its range and longer than each guard band, so the plan can have it
pub record IsOpenCycle (network : NetworkDomain) (cycle_time : ℕ) : Type 0 where
  pub in_range : IsCycleTime cycle_time
  pub above_guards : longest_guard network < cycle_time

-- the first candidate that is longer than each guard band
abbrev pub open_cycle : NetworkDomain → ℕ
open_cycle network = unwrap_or (find (nat_lt (longest_guard network)) network.candidates) 0

-- candidates for a cycle time: 1 to 1,000 of them
pub record AreCandidates (cycles : List ℕ) : Type 0 where
  pub some_cycle : 1 ≤ length cycles
  pub few_cycles : length cycles ≤ 1000
  pub cycle_times : All IsCycleTime cycles

-- a number of octets that a frame may have
pub record IsFrameSize (octets : ℕ) : Type 0 where
  pub least : 64 ≤ octets
  pub most : octets ≤ 1522

-- an access link goes from a station of the network to one of its bridges. Its least delay is at most the greatest. A frame of no stream
-- that its station sends has a size that a frame may have
pub record IsTalkerLink (network : NetworkDomain) (link : TalkerLink) : Type 0 where
  pub station_there : link.station < length network.stations
  pub bridge_there : link.bridge < length network.bridges
  pub delay_most : link.delay ≤ longest_cycle
  pub ordered : link.least ≤ link.delay
  pub other_is_size : ForSome link.other IsFrameSize

-- the number of access links that there may be: four for each station that there may be
abbrev pub access_within : Limits → ℕ
access_within limits = 4 * stations_within limits

-- each is such a link, no two have the same ends, and there are no more of them than there may be
pub record HasTalkerLinks (network : NetworkDomain) : Type 0 where
  pub each_there : All (IsTalkerLink network) network.talkers
  pub ends_once : AllPairs (λ (a b : TalkerLink). ¬ ((a.station ≡ b.station) × (a.bridge ≡ b.bridge))) network.talkers
  pub few : length network.talkers ≤ access_within network.limits

-- what the text of a network file yields: with each open cycle time the plan's domain is accepted, names differ and no
-- link occurs twice; some candidate is open; and talkers' links join stations and bridges of the file
pub record IsNetwork (network : NetworkDomain) : Type 0 where
  pub domains : (cycle_time : ℕ) → IsOpenCycle network cycle_time → IsDomain (domain_at network cycle_time)
  pub are_candidates : AreCandidates network.candidates
  pub some_open : IsTrue (list_any (nat_lt (longest_guard network)) network.candidates)
  pub has_talkers : HasTalkerLinks network

-- the number of a bridge among the bridges, or of a station among the stations
abbrev pub number_of : Node → ℕ
number_of (Bridge b) = b
number_of (Station s) = s

-- the edges that are links of the plan; and the link of the plan, or the talker's link, of an edge
abbrev pub bridge_edges : List Edge → List Edge
bridge_edges edges = filter (λ edge. not (is_talkers edge)) edges

abbrev pub link_of : Edge → Link
link_of edge = link_with (number_of edge.from) edge.to edge.times

abbrev pub talker_of : Edge → TalkerLink
talker_of edge = record {
  station = number_of edge.from;
  bridge = number_of edge.to;
  rate = edge.times.rate;
  delay = edge.times.delay;
  least = edge.times.least;
  other = edge.other;
}

-- there are more bridges, stations, links that begin at a bridge or access links than there may be
abbrev pub is_too_many : NetworkText → List Edge → Bool
is_too_many text edges =
    nat_lt (bridges_within text.limits) (length text.bridges) || (nat_lt (stations_within text.limits) (length text.stations)
    || (nat_lt (links_within text.limits) (bridge_edge_count edges) || nat_lt (access_within text.limits) (length (talkers_of edges))))

-- whether the guard band is at least as long as each candidate, and so as the longest
abbrev pub is_guard_too_long : NetworkText → Bool
is_guard_too_long text = reaches_each text.candidates text.guard

-- the domain of the text with these edges
abbrev pub network_with : NetworkText → List Edge → NetworkDomain
network_with text edges = record {
  limits = text.limits;
  candidates = text.candidates;
  guard = text.guard;
  sync = text.sync;
  overhead = text.overhead;
  bridges = text.bridges;
  stations = text.stations;
  links = map link_of (bridge_edges edges);
  talkers = map talker_of (talkers_of edges);
}

-- the domain of the text, or the first check that it fails. Each check is made over the whole file before the next
abbrev pub with_edges : NetworkText → List Edge → Result NetworkDomain NetworkFault
with_edges text edges =
    refuse (first_twice edges) (λ element. fault.Domain (domain.LinkTwice element)) (
    refuse (if_so (is_guard_too_long text)) (λ _. fault.Domain domain.GuardTooLong) (
    refuse (first_long_guard text.candidates text.guard edges) (λ element. fault.Domain (domain.LinkGuardTooLong element)) (
    refuse (first_long_delay text.sync text.guard edges) (λ element. fault.Domain (domain.DelayTooLong element)) (
    refuse (first_long_gap text.guard edges) (λ element. fault.Domain (domain.GapTooLong element)) (
    refuse (if_so (is_too_many text edges)) (λ _. fault.Domain domain.TooMany) (
    refuse (first_long_sync text.sync edges) (λ element. fault.Domain (domain.SyncTooLong element)) (
    refuse (first_misplaced edges) fault.NoAccessLink (
    Ok (network_with text edges)))))))))

-- a name that occurred earlier, as a fault
abbrev pub name_taken : List ℕ → NetworkFault
name_taken name = fault.Domain (domain.NameTaken name)

-- the domain of a text whose names are numbered
abbrev pub with_names : NetworkText → Result NetworkDomain NetworkFault
with_names text = and_then (joined text.bridges text.stations 0 text.links) (with_edges text)

-- checks names before all else: first that no bridge's name, then that no station's name, occurred earlier
abbrev pub checked : NetworkText → Result NetworkDomain NetworkFault
checked text =
    refuse (first_taken [] text.bridges) name_taken (
    refuse (first_taken text.bridges text.stations) name_taken (
    with_names text))

-- the domain of a network file's text within given limits, or its first fault. If candidates are given, they replace
-- those of the text
abbrev pub open_network_of_text : Limits → Option (List ℕ) → List ℕ → Result NetworkDomain NetworkFault
open_network_of_text limits given text = and_then (draft_of_text limits given text) checked

-- the domain of a text whose cycle time isn't open, or its first fault
abbrev pub network_of_text : Limits → List ℕ → Result NetworkDomain NetworkFault
network_of_text limits text = and_then (one_of_text limits text) checked

-- a node's number is below the given number of bridges or stations; and the same for both ends of an edge
abbrev pub NodeInside : ℕ → ℕ → Node → Type 0
NodeInside bridges stations (Bridge b) = b < bridges
NodeInside bridges stations (Station s) = s < stations

pub record EdgeInside (bridges stations : ℕ) (edge : Edge) : Type 0 where
  pub from_inside : NodeInside bridges stations edge.from
  pub to_inside : NodeInside bridges stations edge.to

-- a link's delays are in their ranges and in order, and the size of frames of no stream is in its range
pub record IsReadLink (link : NetworkLink) : Type 0 where
  pub times_are_read : AreReadTimes link.there.times
  pub other_is_read : ForSome link.other IsFrameSize

-- the ranges and forms of values that are read, provided that given candidates have them
pub record IsReadableNetwork (text : NetworkText) : Type 0 where
  pub are_candidates : AreCandidates text.candidates
  pub guard_some : 0 < text.guard
  pub sync_most : text.sync ≤ longest_cycle
  pub overhead_most : text.overhead ≤ most_overhead
  pub some_bridge : 0 < length text.bridges
  pub bridges_named : All (λ name. IsTrue (is_name name)) text.bridges
  pub stations_named : All (λ name. IsTrue (is_name name)) text.stations
  pub links_are_read : All IsReadLink text.links

-- the names of a text, by number: no name occurs twice
pub record HasNumberedNames (text : NetworkText) (bridges stations : List (List ℕ)) : Type 0 where
  pub readable : IsReadableNetwork text
  pub bridges_are : bridges ≡ text.bridges
  pub stations_are : stations ≡ text.stations
  pub bridges_apart : first_taken [] text.bridges ≡ None
  pub stations_apart : first_taken text.bridges text.stations ≡ None

-- the links of a text, one for each direction, by number: they passed the checks
pub record AreCheckedEdges (text : NetworkText) (edges : List Edge) : Type 0 where
  pub joined_are : joined text.bridges text.stations 0 text.links ≡ Ok edges
  pub passed : with_edges text edges ≡ Ok (network_with text edges)
