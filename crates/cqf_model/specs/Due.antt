-- When a stream's frame is due at a port: in its turn, in the cycle after the one in which it arrived.
use Rattle.std.specs.Prelude.{ℕ, ◌+◌, ◌*◌, Bool, List, take, sum_by, if◌then◌else◌, nat_le, ◌==◌}
use Rattle.cqf_units.specs.Timing.{wire_of, slot_of, cycle_at}
use Rattle.cqf_model.specs.declared.ports.Arrival.{Arrival}
use Rattle.cqf_model.specs.Port.{instant_of}

-- whether an arrival is a stream's frame: those have class 6 or 7, background frames 0 to 5
abbrev pub is_streams : Arrival → Bool
is_streams a = nat_le 6 a.class

-- the octets that an arrival takes on the wire if it is a stream's frame of the cycle, otherwise 0
abbrev pub wire_in : ℕ → ℕ → Arrival → ℕ
wire_in cycle_time cycle a = if cycle_at cycle_time a.at.0 == cycle then (if is_streams a then wire_of a.octets else 0) else 0

-- the octets that the streams' frames of a cycle take on the wire, in total
abbrev pub load : ℕ → ℕ → List Arrival → ℕ
load cycle_time cycle arrivals = sum_by (wire_in cycle_time cycle) arrivals

-- the time on the link that an arrival takes, with the minimum gap after it, in nanoseconds, if it is a stream's frame of the cycle, otherwise 0
abbrev pub slot_in : ℕ → ℕ → ℕ → Arrival → ℕ
slot_in octet_time cycle_time cycle a =
    if cycle_at cycle_time a.at.0 == cycle then (if is_streams a then slot_of a.octets octet_time else 0) else 0

-- the time on the link that the streams' frames of a cycle take, in total, in nanoseconds
abbrev pub busy : ℕ → ℕ → ℕ → List Arrival → ℕ
busy octet_time cycle_time cycle arrivals = sum_by (slot_in octet_time cycle_time cycle) arrivals

-- the cycle of the arrival at an index
abbrev pub cycle_of_index : ℕ → List Arrival → ℕ → ℕ
cycle_of_index cycle_time arrivals index = cycle_at cycle_time (instant_of arrivals index)

-- when a stream's frame is due: in the next cycle, after the streams' frames that came before it in its own
abbrev pub due : ℕ → ℕ → List Arrival → ℕ → ℕ
due cycle_time octet_time arrivals index = let cycle = cycle_of_index cycle_time arrivals index in
    (cycle + 1) * cycle_time + busy octet_time cycle_time cycle (take index arrivals)
