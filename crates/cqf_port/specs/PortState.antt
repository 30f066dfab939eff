-- What a port is to its callers, its invariant, and what each of its operations does.
use Rattle.std.specs.Prelude.{ℕ, ◌≡◌, ◌≢◌, ◌^◌, ◌≤◌, ◌<◌, ◌==◌, ◌&&◌, ◌++◌, Bool, List, length, map, not, count_by, slice_index_or, Contains}
use Rattle.std.specs.List.{enumerate_from, list_any}
use Rattle.cqf_units.specs.Timing.{ticks_of_octet}
use Rattle.cqf_units.specs.declared.timing.Rate.{Rate}
use Rattle.cqf_model.specs.declared.ports.Arrival.{Arrival}
use Rattle.cqf_model.specs.declared.ports.Start.{Start}
use Rattle.cqf_model.specs.GateList.{Entry, IsOpen}
use Rattle.cqf_model.specs.Port.{Transmission, PortRules, AreLegal, no_arrival, instant_of, class_of, octets_of}

-- the rules of a port with this list and rate
abbrev pub rules_of : List Entry → Rate → PortRules
rules_of entries rate = record { entries = entries; octet_time = ticks_of_octet rate }

-- a port: its rules, the instant up to which it has run, the arrivals that it has taken, and the starts that it has made
pub record PortState : Type 0 where
  pub rules : PortRules
  pub reached : ℕ
  pub arrivals : List Arrival
  pub starts : List Transmission

-- arrivals that a port takes: of eight classes, before 2^62 ns, and within each class in order of instant
pub record AreTaken (arrivals : List Arrival) : Type 0 where
  pub classes : (index : ℕ) → index < length arrivals → class_of arrivals index < 8
  pub early : (index : ℕ) → index < length arrivals → instant_of arrivals index < 2 ^ 62
  pub by_class : (index later : ℕ) → index < later → later < length arrivals → class_of arrivals index ≡ class_of arrivals later →
      instant_of arrivals index ≤ instant_of arrivals later

-- the invariant of each port: its starts are legal up to the instant that it has reached
pub record IsPort (p : PortState) : Type 0 where
  pub legal : AreLegal p.rules p.arrivals p.reached p.starts
  pub taken : AreTaken p.arrivals
  pub early : p.reached < 2 ^ 62

-- no other starts are legal up to the instant that it has reached, for the arrivals that it has taken
abbrev pub AreOnly : PortState → Type 0
AreOnly p = (others : List Transmission) → AreLegal p.rules p.arrivals p.reached others → others ≡ p.starts

-- the class was open at some instant from `first` up to but excluding `last`
pub record WasOpen (entries : List Entry) (class first last : ℕ) : Type 0 where
  pub instant : ℕ
  pub from_first : first ≤ instant
  pub before_last : instant < last
  pub is_open : IsOpen entries class instant

-- the arrival comes too late: its class was open at some instant from the arrival's own on that the port has passed
abbrev pub IsLate : PortState → Arrival → Type 0
IsLate p arrival = WasOpen p.rules.entries arrival.class arrival.at.0 p.reached

-- the last arrival of the class is at this index
pub record IsLast (arrivals : List Arrival) (class index : ℕ) : Type 0 where
  pub inside : index < length arrivals
  pub of_class : class_of arrivals index ≡ class
  pub none_after : (other : ℕ) → index < other → other < length arrivals → class_of arrivals other ≢ class

-- the arrival is before the last one taken of its class
pub record IsOutOfOrder (p : PortState) (arrival : Arrival) : Type 0 where
  pub index : ℕ
  pub last : IsLast p.arrivals arrival.class index
  pub earlier : arrival.at.0 < instant_of p.arrivals index

-- a transmission as callers get it, with the data of its arrival
abbrev pub start_of : List Arrival → Transmission → Start
start_of arrivals x = record {
  start = record { 0 = x.1 };
  class = class_of arrivals x.0;
  octets = octets_of arrivals x.0;
  frame = (slice_index_or arrivals x.0 no_arrival).frame;
}

-- the port runs up to an instant: it makes starts from the instant that it had reached on, after those before
pub record RunsUpTo (until : ℕ) (before after : PortState) : Type 0 where
  pub made : List Transmission
  pub from_reached : (index s : ℕ) → Contains made (index, s) → before.reached ≤ s
  pub value : after ≡ record { rules = before.rules; reached = until; arrivals = before.arrivals; starts = before.starts ++ made }

-- the port runs up to an instant: it makes starts from the instant that it had reached on, and appends them to its caller's list
pub record Advances (before after : PortState) (until : ℕ) (given given_after : List Start) : Type 0 where
  pub made : List Transmission
  pub from_reached : (index s : ℕ) → Contains made (index, s) → before.reached ≤ s
  pub value : after ≡ record { rules = before.rules; reached = until; arrivals = before.arrivals; starts = before.starts ++ made }
  pub handed : given_after ≡ given ++ map (start_of before.arrivals) made

-- whether the arrival at the index has started
abbrev pub has_started : List Transmission → ℕ → Bool
has_started starts index = list_any (λ (x : Transmission). x.0 == index) starts

-- the number of arrivals of the class that haven't started
abbrev pub waiting_of : List Arrival → List Transmission → ℕ → ℕ
waiting_of arrivals starts class = count_by (λ (x : ℕ × Arrival). (x.1.class == class) && not (has_started starts x.0)) (enumerate_from 0 arrivals)
