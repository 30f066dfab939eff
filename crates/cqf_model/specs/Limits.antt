-- The limits of a run and of its input: the fixed ones, the bounds up to which plans can be represented, and those that are set for a plan.
use Rattle.std.specs.Prelude.{ℕ, ◌*◌, Bool, true, false, min}
use Rattle.cqf_model.specs.declared.limits.Limits.{Limits}

-- the most cycles of a run, and the most Seals of a history
abbrev pub most_cycles : ℕ
most_cycles = 100000

-- the most calls of a history, or of a script, that aren't Seals
abbrev pub most_calls : ℕ
most_calls = 100000

-- the longest cycle, in nanoseconds
abbrev pub longest_cycle : ℕ
longest_cycle = 10000000

-- the instants of offers and background frames are before this one
abbrev pub end_of_offers : ℕ
end_of_offers = 1000000000000

-- frames start before this instant
abbrev pub end_of_starts : ℕ
end_of_starts = 1000001 * 10000000

-- the fewest octets that a stream may reserve in a cycle
abbrev pub least_reserved : ℕ
least_reserved = 64

-- the most octets that a stream may reserve in a cycle
abbrev pub most_reserved : ℕ
most_reserved = 1000000

-- the most octets of a frame that a gate may leave uncounted: with more of them, frames of the shortest size could cost more than twice the
-- octets that are counted
abbrev pub most_overhead : ℕ
most_overhead = 22

-- the number of cycles in which all paces repeat: a stream is offered in one of every n cycles, for a divisor n of this
abbrev pub most_every : ℕ
most_every = 80

-- a port runs up to this instant at most, in nanoseconds, and its arrivals are no later
abbrev pub last_until : ℕ
last_until = 100000000

-- ---- bounds up to which plans can be represented, regardless of the limits that are set

-- the most bridges of a domain
abbrev pub most_bridges : ℕ
most_bridges = 1024

-- the most stations of a domain
abbrev pub most_stations : ℕ
most_stations = 4096

-- the most links of a domain
abbrev pub most_links : ℕ
most_links = 4096

-- the most nodes of a branch
abbrev pub most_nodes : ℕ
most_nodes = 65

-- the most hops of a tree
abbrev pub most_hops : ℕ
most_hops = 200

-- the most streams that are held at once
abbrev pub most_streams : ℕ
most_streams = 16384

-- the most rows of a table of arrivals, offers or background frames
abbrev pub most_offers : ℕ
most_offers = 16777215

-- ---- limits that are set for a plan

-- the limits of a plan for which none are set
abbrev pub profile : Limits
profile = record { bridges = 32; stations = 64; links = 64; nodes = 17; hops = 64; streams = 1024; rows = 1000000 }

-- the limits of large plans: the bounds of representation, except for rows, which have to be few enough to be kept
abbrev pub large : Limits
large = record {
  bridges = most_bridges;
  stations = most_stations;
  links = most_links;
  nodes = most_nodes;
  hops = most_hops;
  streams = most_streams;
  rows = 10000000;
}

-- the limits of a plan, by whether it is declared large
abbrev pub limits_where : Bool → Limits
limits_where true = large
limits_where false = profile

-- the number of bridges that there may be: the limit that is set, but at most what can be represented
abbrev pub bridges_within : Limits → ℕ
bridges_within limits = min limits.bridges most_bridges

-- the number of stations that there may be: the limit that is set, but at most what can be represented
abbrev pub stations_within : Limits → ℕ
stations_within limits = min limits.stations most_stations

-- the number of links that there may be: the limit that is set, but at most what can be represented
abbrev pub links_within : Limits → ℕ
links_within limits = min limits.links most_links

-- the number of nodes that a branch may have: the limit that is set, but at most what can be represented
abbrev pub nodes_within : Limits → ℕ
nodes_within limits = min limits.nodes most_nodes

-- the number of hops that a tree may have: the limit that is set, but at most what can be represented
abbrev pub hops_within : Limits → ℕ
hops_within limits = min limits.hops most_hops

-- the number of streams that may be held at once: the limit that is set, but at most what can be represented
abbrev pub streams_within : Limits → ℕ
streams_within limits = min limits.streams most_streams

-- the number of rows that a table may have: the limit that is set, but at most what can be represented
abbrev pub rows_within : Limits → ℕ
rows_within limits = min limits.rows most_offers
