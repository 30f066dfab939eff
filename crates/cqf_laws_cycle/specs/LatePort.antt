-- One port whose starts lag, each frame's by its own time: it takes a frame up when an exact port would start it, starts it that
-- much later, and is free again that much later.
use Rattle.std.specs.Prelude.{ℕ, ◌≡◌, ◌+◌, ◌*◌, ◌<◌, ◌≤◌, ◌==◌, List, length, slice_index_or, sum_by, take, if◌then◌else◌, AllPairs, Contains}
use Rattle.cqf_units.specs.Timing.{idle_after, slot_of, time_of, cycle_at}
use Rattle.cqf_model.specs.declared.ports.Arrival.{Arrival}
use Rattle.cqf_model.specs.GateList.{port_list}
use Rattle.cqf_model.specs.Port.{IsEligible, IsFirst, PortRules, Transmission, class_of, no_arrival, octets_of}
use Rattle.cqf_model.specs.Due.{cycle_of_index, is_streams}
use Rattle.cqf_laws_cycle.specs.Compiled.{guard_from}
use Rattle.cqf_laws_cycle.specs.OnePort.{ComeInCycles, StreamsAt}

-- by how much a frame's start lags, in nanoseconds
abbrev pub Lags : Type 0
Lags = Arrival → ℕ

-- how long a frame occupies the link: its slot plus its lag
abbrev pub late_slot : Lags → ℕ → Arrival → ℕ
late_slot late octet_time a = slot_of a.octets octet_time + late a

-- the instant from which the port may take the next frame up
abbrev pub free_late : Lags → ℕ → List Arrival → ℕ → ℕ → ℕ
free_late late octet_time arrivals index t = idle_after t (octets_of arrivals index) octet_time + late (slice_index_or arrivals index no_arrival)

-- each frame that was taken up before has been sent, and the gap after it is over
abbrev pub IsIdleLate : Lags → ℕ → List Arrival → List Transmission → ℕ → Type 0
IsIdleLate late octet_time arrivals taken t = (index s : ℕ) → Contains taken (index, s) → s < t → free_late late octet_time arrivals index s ≤ t

-- what a port takes up before the end, each frame with the instant at which it is taken up: as an exact port starts frames
-- (`AreLegal` of `Port`), except that the port is free again later by the frame's lag
pub record AreTakenUp (rules : PortRules) (late : Lags) (arrivals : List Arrival) (end : ℕ) (taken : List Transmission) : Type 0 where
  pub in_order : AllPairs (λ (a b : Transmission). a.1 < b.1) taken
  pub before_end : (index s : ℕ) → Contains taken (index, s) → s < end
  pub once : (index s t : ℕ) → Contains taken (index, s) → Contains taken (index, t) → s ≡ t
  pub idle : (index s : ℕ) → Contains taken (index, s) → IsIdleLate late rules.octet_time arrivals taken s
  pub first : (index s : ℕ) → Contains taken (index, s) → IsFirst arrivals taken index s
  pub eligible : (index s : ℕ) → Contains taken (index, s) → IsEligible rules arrivals index s
  pub strict_priority : (index s other : ℕ) → Contains taken (index, s) → class_of arrivals index < class_of arrivals other → IsFirst arrivals taken other s →
      ¬ IsEligible rules arrivals other s
  pub work_conserving : (t other : ℕ) → t < end → IsIdleLate late rules.octet_time arrivals taken t → IsFirst arrivals taken other t →
      IsEligible rules arrivals other t → (index : ℕ) × Contains taken (index, t)

-- how long a cycle's streams' frames take with their lags, and when a frame is due after those before it
abbrev pub late_slot_in : Lags → ℕ → ℕ → ℕ → Arrival → ℕ
late_slot_in late octet_time cycle_time cycle a =
    if cycle_at cycle_time a.at.0 == cycle then (if is_streams a then late_slot late octet_time a else 0) else 0

abbrev pub late_busy : Lags → ℕ → ℕ → ℕ → List Arrival → ℕ
late_busy late octet_time cycle_time cycle arrivals = sum_by (late_slot_in late octet_time cycle_time cycle) arrivals

abbrev pub late_due : Lags → ℕ → ℕ → List Arrival → ℕ → ℕ
late_due late cycle_time octet_time arrivals index = let cycle = cycle_of_index cycle_time arrivals index in
    (cycle + 1) * cycle_time + late_busy late octet_time cycle_time cycle (take index arrivals)

-- what the law requires: lags up to a bound, which fits into the guard band together with the gap; and in each cycle before `upto` no more
-- streams' frames than the next cycle can send, with their lags, before its guard band
pub record IsWithinLateBudget (cycle_time guard octet_time lag : ℕ) (late : Lags) (arrivals : List Arrival) (upto : ℕ) : Type 0 where
  pub some_guard : 0 < guard
  pub guard_short : guard < cycle_time
  pub some_octet : 0 < octet_time
  pub gap_short : time_of 12 octet_time + lag ≤ guard
  pub lags : (a : Arrival) → late a ≤ lag
  pub come : ComeInCycles cycle_time arrivals
  pub loads : (cycle : ℕ) → cycle < upto → late_busy late octet_time cycle_time cycle arrivals + guard ≤ cycle_time

abbrev pub AreTakenUpIn : ℕ → ℕ → ℕ → Lags → List Arrival → ℕ → List Transmission → Type 0
AreTakenUpIn cycle_time guard octet_time late arrivals cycles taken =
    AreTakenUp (record { entries = port_list cycle_time guard; octet_time = octet_time }) late arrivals (cycles * cycle_time) taken

-- what the law says: the streams' frames of each cycle before `upto` are taken up when they are due, lags included, as far as the run goes,
-- and up to that cycle no other stream's frame is. Each is due in the next cycle, and is over, with its lag and gap, when the guard band
-- begins
pub record AreLateDue (cycle_time guard octet_time : ℕ) (late : Lags) (arrivals : List Arrival) (cycles upto : ℕ) (taken : List Transmission) : Type 0 where
  pub each : (index : ℕ) → index < length arrivals → StreamsAt arrivals index → cycle_of_index cycle_time arrivals index < upto →
      cycle_of_index cycle_time arrivals index + 1 < cycles → Contains taken (index, late_due late cycle_time octet_time arrivals index)
  pub only : (index s : ℕ) → Contains taken (index, s) → StreamsAt arrivals index → cycle_at cycle_time s ≤ upto →
      (cycle_of_index cycle_time arrivals index < upto) × (s ≡ late_due late cycle_time octet_time arrivals index)
  pub next : (index : ℕ) → index < length arrivals → StreamsAt arrivals index → cycle_of_index cycle_time arrivals index < upto →
      cycle_at cycle_time (late_due late cycle_time octet_time arrivals index) ≡ cycle_of_index cycle_time arrivals index + 1
  pub over : (index : ℕ) → index < length arrivals → StreamsAt arrivals index → cycle_of_index cycle_time arrivals index < upto →
      late_due late cycle_time octet_time arrivals index + late_slot late octet_time (slice_index_or arrivals index no_arrival)
      ≤ guard_from cycle_time guard (cycle_of_index cycle_time arrivals index + 1)

abbrev pub LatePortIsOneCycleLate : Type 0
LatePortIsOneCycleLate = (cycle_time guard octet_time lag : ℕ) (late : Lags) (arrivals : List Arrival) (cycles upto : ℕ) (taken : List Transmission) →
    IsWithinLateBudget cycle_time guard octet_time lag late arrivals upto → AreTakenUpIn cycle_time guard octet_time late arrivals cycles taken →
    AreLateDue cycle_time guard octet_time late arrivals cycles upto taken
