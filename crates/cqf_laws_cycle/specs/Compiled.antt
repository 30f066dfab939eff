-- What the compiled gate lists do in a cycle.
use Rattle.std.specs.Prelude.{ℕ, ◌≡◌, ◌⊎◌, ◌+◌, ◌-◌, ◌*◌, ◌%◌, ◌<◌, ◌≤◌, ◌↔◌, if◌then◌else◌, ◌==◌}
use Rattle.cqf_units.specs.Timing.{cycle_at}
use Rattle.cqf_model.specs.declared.topology.Pace.{Pace}
use Rattle.cqf_model.specs.GateList.{IsOpen, IsOpenThrough, port_list}
use Rattle.cqf_model.specs.StreamGate.{stream_list, gate_class, same_interval}

-- the class of streams that the ports send in a cycle, and the class that the stream gates give to what arrives in it
abbrev pub open_class : ℕ → ℕ
open_class cycle = if cycle % 2 == 0 then 7 else 6

abbrev pub given_class : ℕ → ℕ
given_class cycle = if cycle % 2 == 0 then 6 else 7

-- the instant is in the cycle
abbrev pub IsIn : ℕ → ℕ → ℕ → Type 0
IsIn cycle_time cycle t = (cycle * cycle_time ≤ t) × (t < cycle * cycle_time + cycle_time)

-- the instant at which a cycle's guard band begins
abbrev pub guard_from : ℕ → ℕ → ℕ → ℕ
guard_from cycle_time guard cycle = cycle * cycle_time + (cycle_time - guard)

-- what a port may send in a cycle: its class of streams, and the classes of background frames
abbrev pub IsSentIn : ℕ → ℕ → Type 0
IsSentIn cycle class = (class ≡ open_class cycle) ⊎ (class < 6)

-- a port has exactly these classes open in a cycle until the guard band begins, and none in the guard band
abbrev pub PortListIsOpen : Type 0
PortListIsOpen = (cycle_time guard cycle t class : ℕ) → guard < cycle_time → IsIn cycle_time cycle t →
    IsOpen (port_list cycle_time guard) class t ↔ (IsSentIn cycle class × (t < guard_from cycle_time guard cycle))

-- so a gate is open from t to an end exactly if its class is one of these and the end is not after the first instant of the guard
-- band
abbrev pub PortListSends : Type 0
PortListSends = (cycle_time guard cycle t end class : ℕ) → 0 < guard → guard < cycle_time → IsIn cycle_time cycle t → t < end →
    IsOpenThrough (port_list cycle_time guard) class t end ↔ (IsSentIn cycle class × (end ≤ guard_from cycle_time guard cycle))

-- the gate of a reservation gives what arrives in a cycle the class of streams that is open not in this cycle, but in the next
abbrev pub GateGivesClass : Type 0
GateGivesClass = (cycle_time reserved : ℕ) (pace : Pace) (hop_number t : ℕ) → 0 < cycle_time →
    gate_class (stream_list cycle_time reserved pace hop_number) t ≡ given_class (cycle_at cycle_time t)

-- the gate of a reservation counts octets by the cycle
abbrev pub GateCountsCycles : Type 0
GateCountsCycles = (cycle_time reserved : ℕ) (pace : Pace) (hop_number s t : ℕ) → 0 < cycle_time →
    same_interval (stream_list cycle_time reserved pace hop_number) s t ≡ (cycle_at cycle_time s == cycle_at cycle_time t)

-- the class that a cycle gives is the class that the next one sends
abbrev pub ClassesAlternate : Type 0
ClassesAlternate = (cycle : ℕ) → open_class (cycle + 1) ≡ given_class cycle
