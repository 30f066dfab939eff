-- What stations hand to their access links, and how long a frame may take there.
use Rattle.std.specs.Prelude.{ℕ, ◌≡◌, ◌+◌, ◌<◌, ◌≤◌, ◌==◌, List, [], ◌∷◌, Bool, true, false, Option, Some, None, flat_map, is_none, length, map, max, min, nat_le}
use Rattle.std.specs.Prelude.{if◌then◌else◌, option_map, position, slice_get, slice_index_or, suc}
use Rattle.std.specs.Option.{ForSome, option_map_or}
use Rattle.cqf_lists.specs.Lists.{least}
use Rattle.cqf_units.specs.Timing.{ticks_of_octet}
use Rattle.cqf_laws_timing.specs.Traffic.{Traffic}
use Rattle.cqf_traffic.specs.TrafficText.{TrafficText, promise_of}
use Rattle.cqf_network.specs.declared.domain.TalkerLink.{TalkerLink}
use Rattle.cqf_network.specs.NetworkDomain.{NetworkDomain}
use Rattle.cqf_access.specs.Access.{AccessLink, demand}
use Rattle.cqf_edge.specs.declared.uses.Handed.{Handed}
use Rattle.cqf_edge.specs.declared.uses.AccessUse.{AccessUse}
use Rattle.cqf_edge.specs.declared.uses.AccessBound.{AccessBound}
use Rattle.cqf_edge.specs.declared.uses.AccessBound.TheVariants as bound

-- the largest size of a stream's frames: that of its traffic; without traffic its reservation and the gate overhead together, but at most
-- 1522 octets, since gates don't count more of such a frame than is reserved
abbrev pub longest_frame : ℕ → ℕ → Option TrafficText → ℕ
longest_frame overhead octets traffic = option_map_or (λ (t : TrafficText). t.size) traffic (min (octets + overhead) 1522)

-- the smallest size of a stream's frames: as the text says, or else that of its traffic; without traffic the smallest size of a frame
abbrev pub shortest_frame : Option ℕ → Option TrafficText → ℕ
shortest_frame (Some octets) traffic = octets
shortest_frame None traffic = option_map_or (λ (t : TrafficText). t.size) traffic 64

-- what a stream hands to the access link at an index, given the gate overhead
abbrev pub handed_over : ℕ → ℕ → ℕ → Option ℕ → Option TrafficText → Handed
handed_over overhead index octets shortest traffic = record {
  index = index;
  octets = longest_frame overhead octets traffic;
  shortest = min (shortest_frame shortest traffic) (longest_frame overhead octets traffic);
  traffic = traffic;
}

-- the access link is one of this number of links
abbrev pub IsHandedTo : ℕ → Option Handed → Type 0
IsHandedTo count one = ForSome one (λ handed. handed.index < count)

-- the larger of the numbers that are given, or none if neither is given
abbrev pub larger : Option ℕ → Option ℕ → Option ℕ
larger None other = other
larger (Some one) None = Some one
larger (Some one) (Some other) = Some (max one other)

-- what is handed to the access link at an index, by its streams in their order
abbrev pub is_handed_to : ℕ → Option Handed → Bool
is_handed_to index None = false
is_handed_to index (Some handed) = handed.index == index

abbrev pub handed_to : ℕ → List (Option Handed) → List Handed
handed_to index all = flat_map (λ one. if is_handed_to index one then option_map_or (λ handed. handed ∷ []) one [] else []) all

-- what is promised of what is handed over
abbrev pub promise_in : Handed → List Traffic
promise_in handed = option_map_or (λ (t : TrafficText). promise_of t ∷ []) handed.traffic []

abbrev pub promises_in : List Handed → List Traffic
promises_in all = flat_map promise_in all

-- the largest size of a frame without a promise: a frame of no stream, as the text says of the station, or a frame of a stream that promises
-- nothing. These frames wait for all others, but one of them may be under way when another is handed over
abbrev pub unpromised : Handed → Option ℕ
unpromised handed = if is_none handed.traffic then Some handed.octets else None

abbrev pub other_beside : Option ℕ → List Handed → Option ℕ
other_beside other [] = other
other_beside other (handed ∷ all) = other_beside (larger other (unpromised handed)) all

-- the uses of some access links: of each, what is handed to it, by its index
pub record AreUses (links : List TalkerLink) (all : List (Option Handed)) (uses : List AccessUse) : Type 0 where
  pub each : length uses ≡ length links
  pub others : (k : ℕ) (link : TalkerLink) (use_of : AccessUse) → slice_get links k ≡ Some link → slice_get uses k ≡ Some use_of →
      use_of.other ≡ other_beside link.other (handed_to k all)
  pub promises : (k : ℕ) (use_of : AccessUse) → slice_get uses k ≡ Some use_of → map promise_of use_of.promises.items ≡ promises_in (handed_to k all)

-- the least time above 0, and up to `most`, in which a link sends all that is promised within this time, and one frame without a promise
abbrev pub most_bound : ℕ
most_bound = 1000000000

abbrev pub is_enough : AccessLink → List Traffic → ℕ → Bool
is_enough link promises time = nat_le (demand link promises time) time

unfoldable pub least_bound : AccessLink → List Traffic → ℕ → Option ℕ
least_bound link promises most = option_map suc (least (λ k. is_enough link promises (suc k)) most)

-- an access link, with the largest size of a frame without a promise
abbrev pub link_with : TalkerLink → Option ℕ → AccessLink
link_with link other = record { octet_time = ticks_of_octet link.rate; other = other }

-- the bound of a link: the longest time from the hand-over of a frame until a largest frame of its stream, sent in its place, would be
-- over, with its gap. There is none if nothing is promised; else it is the least time that is enough, or the link is full
abbrev pub bound_by : Option ℕ → AccessBound
bound_by None = bound.Full
bound_by (Some time) = bound.Within (record { 0 = time })

abbrev pub bound_of : TalkerLink → Option ℕ → List Traffic → AccessBound
bound_of link other [] = bound.Idle
bound_of link other (t ∷ ts) = bound_by (least_bound (link_with link other) (t ∷ ts) most_bound)

abbrev pub bound_for : List (Option Handed) → ℕ → TalkerLink → AccessBound
bound_for all index link = bound_of link (other_beside link.other (handed_to index all)) (promises_in (handed_to index all))

-- the bounds of the access links from an index on, and of all of a network
abbrev pub bounds_from : List (Option Handed) → ℕ → List TalkerLink → List AccessBound
bounds_from all index [] = []
bounds_from all index (link ∷ links) = bound_for all index link ∷ bounds_from all (index + 1) links

abbrev pub bounds_of : NetworkDomain → List (Option Handed) → List AccessBound
bounds_of network all = bounds_from all 0 network.talkers

-- the time of a bound. If no wait is known, it is taken as 0
abbrev pub time_in : AccessBound → ℕ
time_in bound.Idle = 0
time_in (bound.Within time) = time.0
time_in bound.Full = 0

abbrev pub IsShort : AccessBound → Type 0
IsShort found = time_in found ≤ most_bound

-- the first link that is full, and the station that it leaves
abbrev pub is_full : AccessBound → Bool
is_full bound.Idle = false
is_full (bound.Within time) = false
is_full bound.Full = true

abbrev pub station_at : NetworkDomain → ℕ → List ℕ
station_at network index = slice_index_or network.stations (option_map_or (λ (link : TalkerLink). link.station) (slice_get network.talkers index) 0) []

abbrev pub full_station : NetworkDomain → List AccessBound → Option (List ℕ)
full_station network bounds = option_map (station_at network) (position is_full bounds)
