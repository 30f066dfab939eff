-- Frames on a link (IEEE Std 802.3), cycles, and the share of a link that a reservation takes. Instants and durations are in whole
-- nanoseconds. The time of an octet is in ticks of 40 picoseconds; a nanosecond has 25 of them.
use Rattle.std.specs.Prelude.{ℕ, ◌+◌, ◌-◌, ◌*◌, ◌/◌, ◌%◌, ◌==◌, if◌then◌else◌}
use Rattle.cqf_units.specs.declared.timing.Rate.{Rate}
use Rattle.cqf_units.specs.declared.timing.Rate.TheVariants.{Mb10, Mb100, Mb1000, Mb2500, Mb5000, Mb10000, Mb25000, Mb40000, Mb100000}

-- the time of an octet at a rate, in ticks (IEEE 802.3)
abbrev pub ticks_of_octet : Rate → ℕ
ticks_of_octet Mb10 = 20000
ticks_of_octet Mb100 = 2000
ticks_of_octet Mb1000 = 200
ticks_of_octet Mb2500 = 80
ticks_of_octet Mb5000 = 40
ticks_of_octet Mb10000 = 20
ticks_of_octet Mb25000 = 8
ticks_of_octet Mb40000 = 5
ticks_of_octet Mb100000 = 2

-- the time that `octets` octets take, in nanoseconds, rounded up to a whole one, since ports start frames at whole nanoseconds. Up to 1,000
-- Mb/s nothing is rounded
abbrev pub time_of : ℕ → ℕ → ℕ
time_of octets octet_time = (octets * octet_time + 24) / 25

-- the octets that a frame takes on the wire: its own, 8 of preamble and start delimiter, and 12 of minimum gap (IEEE 802.3)
abbrev pub wire_of : ℕ → ℕ
wire_of octets = octets + 20

-- a frame's slot: the time that its octets on the wire take, in nanoseconds
abbrev pub slot_of : ℕ → ℕ → ℕ
slot_of octets octet_time = time_of (wire_of octets) octet_time

-- the instant at which a frame that starts at `start` has ended: preamble, start delimiter and frame have been sent
abbrev pub ending_of : ℕ → ℕ → ℕ → ℕ
ending_of start octets octet_time = start + time_of (octets + 8) octet_time

-- the instant from which the port may start the next frame: the minimum gap has passed too
abbrev pub idle_after : ℕ → ℕ → ℕ → ℕ
idle_after start octets octet_time = start + slot_of octets octet_time

-- how many octets of a frame a stream gate counts: all but the gate overhead
abbrev pub counted_of : ℕ → ℕ → ℕ
counted_of overhead octets = octets - overhead

-- the cost of a reservation, in octets per cycle, which it takes once of each link of its tree: the reserved octets, which are those that
-- gates count; and for each frame of the shortest size (64 octets) that passes, the overhead that gates don't count, and 20 octets of
-- preamble, start delimiter and gap
abbrev pub cost_of : ℕ → ℕ → ℕ
cost_of overhead reserved = reserved + (overhead + 20) * (reserved / (64 - overhead))

-- an upper bound of the ticks that rounding a time up to whole nanoseconds adds
abbrev pub rounding_of : ℕ → ℕ
rounding_of octet_time = if octet_time % 25 == 0 then 0 else (if octet_time % 5 == 0 then 20 else 24)

-- an upper bound of the ticks that a frame of the shortest size takes on the wire (84 octets), rounded up to whole nanoseconds. No larger
-- frame takes more than 1/84 of it for each of its octets on the wire
abbrev pub shortest_of : ℕ → ℕ
shortest_of octet_time = 84 * octet_time + rounding_of octet_time

-- an upper bound of the time, in nanoseconds, that frames with this total cost take to send, regardless of their sizes: `shortest_of` ticks
-- for each 84 octets of cost
abbrev pub span_of : ℕ → ℕ → ℕ
span_of cost octet_time = cost * shortest_of octet_time / 2100

-- what reservations may cost on a link, in octets per cycle: frames with this total cost can be sent in the cycle time less the guard band
abbrev pub budget_of : ℕ → ℕ → ℕ → ℕ
budget_of cycle_time guard octet_time = (cycle_time - guard) * 2100 / shortest_of octet_time

-- the cycle that contains an instant; cycle 0 begins at instant 0
abbrev pub cycle_at : ℕ → ℕ → ℕ
cycle_at cycle_time t = t / cycle_time
