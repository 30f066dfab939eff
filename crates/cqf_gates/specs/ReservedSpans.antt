-- The gate of a reservation as it is written: a list has few entries, so consecutive cycles in which nothing passes are one entry.
use Rattle.std.specs.Prelude.{ℕ, ◌+◌, ◌-◌, ◌*◌, ◌%◌, ◌==◌, List, [], ◌∷◌, ◌++◌, if◌then◌else◌, Some}
use Rattle.cqf_model.specs.declared.gates.StreamEntry.{StreamEntry}
use Rattle.cqf_model.specs.declared.topology.Pace.{Pace}

-- the entry for this many cycles in which no frame of one or more octets passes; none for 0 cycles
abbrev pub closed_for : ℕ → ℕ → List StreamEntry
closed_for cycle_time cycles = if cycles == 0 then [] else record { ipv = 6; interval = cycles * cycle_time; octet_max = Some 0 } ∷ []

-- the entry for one of the stream's own cycles, in which the reserved octets pass: class 6 in even cycles and class 7 in odd ones
abbrev pub open_in : ℕ → ℕ → ℕ → StreamEntry
open_in cycle_time reserved cycle = record { ipv = 6 + cycle % 2; interval = cycle_time; octet_max = Some reserved }

-- the first cycle in which the stream's frames are at this hop number
abbrev pub first_active_cycle : Pace → ℕ → ℕ
first_active_cycle pace hop_number = (pace.phase + hop_number) % (pace.pause + 1)

-- the rest of a list of two periods: if a period has an odd number of cycles, the list has two periods, since the classes alternate. These
-- are the entries after the first own cycle up to and including the second
abbrev pub second_active_cycle : ℕ → ℕ → Pace → ℕ → List StreamEntry
second_active_cycle cycle_time reserved pace active_cycle =
    if (pace.pause + 1) % 2 == 0 then [] else closed_for cycle_time pace.pause ++ open_in cycle_time reserved (active_cycle + (pace.pause + 1)) ∷ []

-- the gate of a reservation as entries, two to five of them, given its first own cycle
abbrev pub spans_from : ℕ → ℕ → Pace → ℕ → List StreamEntry
spans_from cycle_time reserved pace active_cycle =
    closed_for cycle_time active_cycle
    ++ (open_in cycle_time reserved active_cycle ∷ (second_active_cycle cycle_time reserved pace active_cycle ++ closed_for cycle_time (pace.pause - active_cycle)))

-- the gate of a reservation as entries, at a hop number
abbrev pub reserved_spans : ℕ → ℕ → Pace → ℕ → List StreamEntry
reserved_spans cycle_time reserved pace hop_number = spans_from cycle_time reserved pace (first_active_cycle pace hop_number)
