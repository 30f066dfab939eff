-- A domain of bridges and stations, and its links.
use Rattle.std.specs.Prelude.{ℕ, ◌≡◌, ◌≢◌, ◌+◌, ◌*◌, ◌/◌, ◌≤◌, ◌<◌, List, [], ◌∷◌, Bool, true, false, ◌==◌, ◌&&◌, length, Option, Some, None, option_map, slice_get}
use Rattle.std.specs.Prelude.{position}
use Rattle.std.specs.Option.{option_map_or, unwrap_or}
use Rattle.cqf_units.specs.Timing.{ticks_of_octet, time_of, budget_of, cycle_at}
use Rattle.cqf_model.specs.declared.topology.Link.{Link}
use Rattle.cqf_model.specs.declared.topology.Node.{Node}
use Rattle.cqf_model.specs.declared.topology.Node.TheVariants.{Bridge, Station}
use Rattle.cqf_model.specs.declared.limits.Limits.{Limits}
use Rattle.cqf_model.specs.Limits.{bridges_within, links_within, longest_cycle, most_overhead, stations_within}

-- a domain: the limits that are set for it; its times in nanoseconds (the cycle time, the guard band of each link that has none of its own,
-- and the greatest difference between any two of its clocks); the octets of a frame that its stream gates don't count; the names of its
-- bridges and stations; and its directed links, each known by its index
pub record Domain : Type 0 where
  pub limits : Limits
  pub cycle_time : ℕ
  pub guard : ℕ
  pub sync : ℕ
  pub overhead : ℕ
  pub bridges : List (List ℕ)
  pub stations : List (List ℕ)
  pub links : List Link

-- the node is one of the domain's
abbrev pub IsNode : Domain → Node → Type 0
IsNode d (Bridge b) = b < length d.bridges
IsNode d (Station s) = s < length d.stations

-- a link's guard band: its own if it has one, otherwise the domain's
abbrev pub guard_by : ℕ → Link → ℕ
guard_by guard link = unwrap_or link.guard guard

-- an accepted link: its ends exist. A frame sent in a cycle is received in that cycle by either clock: the greatest delay and the clocks'
-- difference together are below the link's guard band. No frame of the shortest size is received, by the receiver's clock, before it
-- started by the sender's. The minimum gap after a cycle's last frame is over by the end of the cycle
pub record IsAcceptedLink (d : Domain) (link : Link) : Type 0 where
  pub from_bridge : link.from < length d.bridges
  pub to_node : IsNode d link.to
  pub not_to_itself : link.to ≢ Bridge link.from
  pub least_short : link.least ≤ link.delay
  pub delay_short : link.delay + d.sync < guard_by d.guard link
  pub sync_short : d.sync ≤ time_of 72 (ticks_of_octet link.rate) + link.least
  pub gap_short : time_of 12 (ticks_of_octet link.rate) ≤ guard_by d.guard link
  pub guard_short : guard_by d.guard link < d.cycle_time

-- an accepted domain. Well-formed and distinct names, and distinct links, are required by the readers of domains: they don't affect what a
-- network does, but they do affect what a name means in admission control
pub record IsAccepted (d : Domain) : Type 0 where
  pub cycle_least : 10000 ≤ d.cycle_time
  pub cycle_most : d.cycle_time ≤ longest_cycle
  pub guard_some : 0 < d.guard
  pub guard_short : d.guard < d.cycle_time
  pub overhead_short : d.overhead ≤ most_overhead
  pub some_bridge : 0 < length d.bridges
  pub few_bridges : length d.bridges ≤ bridges_within d.limits
  pub few_stations : length d.stations ≤ stations_within d.limits
  pub few_links : length d.links ≤ links_within d.limits
  pub links_good : (l : ℕ) (link : Link) → slice_get d.links l ≡ Some link → IsAcceptedLink d link

-- the cycle that contains an instant
abbrev pub cycle_of : Domain → ℕ → ℕ
cycle_of d t = cycle_at d.cycle_time t

-- a link's octet time, in ticks
abbrev pub octet_time_of : Domain → ℕ → ℕ
octet_time_of d l = option_map_or (λ (link : Link). ticks_of_octet link.rate) (slice_get d.links l) 0

-- a link's greatest delay, in nanoseconds
abbrev pub delay_of : Domain → ℕ → ℕ
delay_of d l = option_map_or (λ (link : Link). link.delay) (slice_get d.links l) 0

-- a link's least delay, in nanoseconds
abbrev pub least_delay_of : Domain → ℕ → ℕ
least_delay_of d l = option_map_or (λ (link : Link). link.least) (slice_get d.links l) 0

-- a link's guard band
abbrev pub guard_of : Domain → ℕ → ℕ
guard_of d l = option_map_or (guard_by d.guard) (slice_get d.links l) d.guard

-- the minimum gap after a frame on a link, in nanoseconds, rounded down
abbrev pub gap_of : Domain → ℕ → ℕ
gap_of d l = 12 * octet_time_of d l / 25

-- what reservations may cost on a link, in octets per cycle
abbrev pub budget : Domain → ℕ → ℕ
budget d l = budget_of d.cycle_time (guard_of d l) (octet_time_of d l)

-- the bridge that a link leaves
abbrev pub bridge_of : Domain → ℕ → ℕ
bridge_of d l = option_map_or (λ (link : Link). link.from) (slice_get d.links l) 0

-- the node that a link ends in
abbrev pub end_of : Domain → ℕ → Option Node
end_of d l = option_map (λ (link : Link). link.to) (slice_get d.links l)

-- whether the link leaves the bridge; false if the domain has no such link
abbrev pub leaves : Domain → ℕ → ℕ → Bool
leaves d l bridge = option_map_or (λ (link : Link). link.from == bridge) (slice_get d.links l) false

-- whether the node is the bridge
abbrev pub node_is : Node → ℕ → Bool
node_is (Bridge b) bridge = b == bridge
node_is (Station s) bridge = false

-- whether the link ends in the bridge; false if the domain has no such link
abbrev pub enters : Domain → ℕ → ℕ → Bool
enters d l bridge = option_map_or (λ (link : Link). node_is link.to bridge) (slice_get d.links l) false

-- whether the first link ends in the bridge that the second leaves
abbrev pub joins : Domain → ℕ → ℕ → Bool
joins d m l = option_map_or (λ (link : Link). enters d m link.from) (slice_get d.links l) false

-- whether two texts are equal
abbrev pub is_text : List ℕ → List ℕ → Bool
is_text [] [] = true
is_text [] (y ∷ ys) = false
is_text (x ∷ xs) [] = false
is_text (x ∷ xs) (y ∷ ys) = (x == y) && is_text xs ys

-- the node with a name, from the bridge and the station with that name: the bridge if there is one, otherwise the station
abbrev pub node_or : Option ℕ → Option ℕ → Option Node
node_or (Some b) s = Some (Bridge b)
node_or None (Some s) = Some (Station s)
node_or None None = None

-- the node with a name
abbrev pub node_named : Domain → List ℕ → Option Node
node_named d name = node_or (position (λ other. is_text other name) d.bridges) (position (λ other. is_text other name) d.stations)

-- whether two nodes are the same
abbrev pub same_node : Node → Node → Bool
same_node (Bridge a) (Bridge b) = a == b
same_node (Bridge a) (Station b) = false
same_node (Station a) (Bridge b) = false
same_node (Station a) (Station b) = a == b

-- the first link from a bridge to a node
abbrev pub link_between : Domain → ℕ → Node → Option ℕ
link_between d from to = position (λ (link : Link). (link.from == from) && same_node link.to to) d.links
