-- One port at which streams' frames arrive in cycles, with background frames at any positions among them.
use Rattle.std.specs.Prelude.{ℕ, ◌≡◌, ◌+◌, ◌*◌, ◌<◌, ◌≤◌, List, length, AllPairs, Contains}
use Rattle.cqf_units.specs.Timing.{ending_of, idle_after, time_of, cycle_at}
use Rattle.cqf_model.specs.declared.ports.Arrival.{Arrival}
use Rattle.cqf_model.specs.GateList.{port_list}
use Rattle.cqf_model.specs.Port.{Transmission, AreLegal, Waits, class_of, octets_of}
use Rattle.cqf_model.specs.Due.{busy, cycle_of_index, due}
use Rattle.cqf_laws_cycle.specs.Compiled.{given_class, guard_from}

-- a stream's frame: it has class 6 or 7; a background frame has one of classes 0 to 5
abbrev pub IsStreams : Arrival → Type 0
IsStreams a = 6 ≤ a.class

-- the arrival at an index is a stream's frame
abbrev pub StreamsAt : List Arrival → ℕ → Type 0
StreamsAt arrivals index = 6 ≤ class_of arrivals index

-- the arrival at an index is a background frame
abbrev pub BackgroundAt : List Arrival → ℕ → Type 0
BackgroundAt arrivals index = class_of arrivals index < 6

-- the streams' frames arrive in order of instant, each with the class that the stream gates give in its cycle. Background frames
-- may arrive at any instant
pub record ComeInCycles (cycle_time : ℕ) (arrivals : List Arrival) : Type 0 where
  pub in_order : AllPairs (λ (a b : Arrival). IsStreams a → IsStreams b → a.at.0 ≤ b.at.0) arrivals
  pub classes : (index : ℕ) → index < length arrivals → StreamsAt arrivals index →
      class_of arrivals index ≡ given_class (cycle_of_index cycle_time arrivals index)

-- when the wire is free again after a stream's frame that starts when it is due
abbrev pub free_after : ℕ → ℕ → List Arrival → ℕ → ℕ
free_after cycle_time octet_time arrivals index =
    idle_after (due cycle_time octet_time arrivals index) (octets_of arrivals index) octet_time

-- the streams' frames of each cycle before `upto` start when they are due, as far as the run goes, and up to that cycle no other
-- stream's frame starts
pub record AreDue (cycle_time guard octet_time : ℕ) (arrivals : List Arrival) (cycles upto : ℕ) (starts : List Transmission) : Type 0 where
  pub each : (index : ℕ) → index < length arrivals → StreamsAt arrivals index → cycle_of_index cycle_time arrivals index < upto →
      cycle_of_index cycle_time arrivals index + 1 < cycles → Contains starts (index, due cycle_time octet_time arrivals index)
  pub only : (index s : ℕ) → Contains starts (index, s) → StreamsAt arrivals index → cycle_at cycle_time s ≤ upto →
      (cycle_of_index cycle_time arrivals index < upto) × (s ≡ due cycle_time octet_time arrivals index)
  -- the due instant is in the next cycle, and the gap after the frame is over when the guard band begins
  pub next : (index : ℕ) → index < length arrivals → StreamsAt arrivals index → cycle_of_index cycle_time arrivals index < upto →
      cycle_at cycle_time (due cycle_time octet_time arrivals index) ≡ cycle_of_index cycle_time arrivals index + 1
  pub over : (index : ℕ) → index < length arrivals → StreamsAt arrivals index → cycle_of_index cycle_time arrivals index < upto →
      free_after cycle_time octet_time arrivals index ≤ guard_from cycle_time guard (cycle_of_index cycle_time arrivals index + 1)

-- no background frame delays a stream's frame
pub record YieldsToStreams (cycle_time guard octet_time : ℕ) (arrivals : List Arrival) (upto : ℕ) (starts : List Transmission) : Type 0 where
  -- a background frame starts only when every stream's frame of an earlier cycle has been sent and the gap after that is over
  pub following : (index s other : ℕ) → Contains starts (index, s) → BackgroundAt arrivals index → cycle_at cycle_time s ≤ upto →
      other < length arrivals → StreamsAt arrivals other → cycle_of_index cycle_time arrivals other < cycle_at cycle_time s →
      free_after cycle_time octet_time arrivals other ≤ s
  -- so a stream's frame that waits at that instant arrived in that very cycle, in which its class is closed
  pub none_waits : (index s other : ℕ) → Contains starts (index, s) → BackgroundAt arrivals index → cycle_at cycle_time s ≤ upto →
      StreamsAt arrivals other → Waits arrivals starts other s → cycle_of_index cycle_time arrivals other ≡ cycle_at cycle_time s
  -- a background frame has been sent when the guard band begins, and the gap after it is over when the next cycle begins
  pub sent : (index s : ℕ) → Contains starts (index, s) → BackgroundAt arrivals index →
      ending_of s (octets_of arrivals index) octet_time ≤ guard_from cycle_time guard (cycle_at cycle_time s)
  pub over : (index s : ℕ) → Contains starts (index, s) → BackgroundAt arrivals index →
      idle_after s (octets_of arrivals index) octet_time ≤ (cycle_at cycle_time s + 1) * cycle_time

-- what the laws of one port require: a guard band into which the gap fits, and streams' frames that arrive in cycles, in each cycle
-- before `upto` no more than the next one can send before its guard band. Background frames are not restricted
pub record IsWithinBudget (cycle_time guard octet_time : ℕ) (arrivals : List Arrival) (upto : ℕ) : Type 0 where
  pub some_guard : 0 < guard
  pub guard_short : guard < cycle_time
  pub some_octet : 0 < octet_time
  pub gap_short : time_of 12 octet_time ≤ guard
  pub come : ComeInCycles cycle_time arrivals
  pub loads : (cycle : ℕ) → cycle < upto → busy octet_time cycle_time cycle arrivals + guard ≤ cycle_time

-- the transmissions are legal with the compiled gate list, up to the end of this number of cycles
abbrev pub AreSent : ℕ → ℕ → ℕ → List Arrival → ℕ → List Transmission → Type 0
AreSent cycle_time guard octet_time arrivals cycles starts =
    AreLegal (record { entries = port_list cycle_time guard; octet_time = octet_time }) arrivals (cycles * cycle_time) starts

-- a port is one cycle late: if the streams' frames that arrive in each cycle are within the link's budget, they leave in the next
abbrev pub PortIsOneCycleLate : Type 0
PortIsOneCycleLate = (cycle_time guard octet_time : ℕ) (arrivals : List Arrival) (cycles upto : ℕ) (starts : List Transmission) →
    IsWithinBudget cycle_time guard octet_time arrivals upto →
    AreSent cycle_time guard octet_time arrivals cycles starts →
    AreDue cycle_time guard octet_time arrivals cycles upto starts

-- no background frame delays a stream's frame at a port, if the streams' frames that arrive in each cycle are within the link's budget
abbrev pub BackgroundYields : Type 0
BackgroundYields = (cycle_time guard octet_time : ℕ) (arrivals : List Arrival) (cycles upto : ℕ) (starts : List Transmission) →
    IsWithinBudget cycle_time guard octet_time arrivals upto →
    AreSent cycle_time guard octet_time arrivals cycles starts →
    YieldsToStreams cycle_time guard octet_time arrivals upto starts
