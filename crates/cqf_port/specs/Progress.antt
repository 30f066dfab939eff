-- What a port remembers of its progress, so that it needn't search its starts again.
use Rattle.std.specs.Prelude.{ℕ, ◌≡◌, ◌≢◌, ◌+◌, ◌^◌, ◌≤◌, ◌<◌, ◌++◌, List, [], length, Option, Some, None, slice_index_or, Contains}
use Rattle.cqf_model.specs.declared.ports.Arrival.{Arrival}
use Rattle.cqf_model.specs.Port.{Transmission, PortRules, AreLegal, IsEligible, IsIdle, instant_of, class_of, octets_of}
use Rattle.cqf_units.specs.Timing.{idle_after}
use Rattle.cqf_units.specs.declared.timing.Nanos.{Nanos}
use Rattle.cqf_port.specs.PortState.{AreTaken, IsLast}
use Rattle.cqf_port.specs.declared.progress.Progress.{Progress}

-- the arrival has started
abbrev pub HasStarted : List Transmission → ℕ → Type 0
HasStarted starts index = (s : ℕ) × Contains starts (index, s)

-- the arrival at the index hasn't started, and each earlier arrival of its class has
pub record IsHead (arrivals : List Arrival) (starts : List Transmission) (class index : ℕ) : Type 0 where
  pub inside : index < length arrivals
  pub of_class : class_of arrivals index ≡ class
  pub not_started : (s : ℕ) → ¬ Contains starts (index, s)
  pub started_before : (other : ℕ) → other < index → class_of arrivals other ≡ class → HasStarted starts other

-- the head of a class: the first arrival of the class that hasn't started, or none if all have
abbrev pub IsHeadOf : List Arrival → List Transmission → ℕ → Option ℕ → Type 0
IsHeadOf arrivals starts class None = (index : ℕ) → index < length arrivals → class_of arrivals index ≡ class → HasStarted starts index
IsHeadOf arrivals starts class (Some index) = IsHead arrivals starts class index

-- what a port knows at an instant up to which it has run: from when on it is idle, and the head of each class
pub record IsAbreast (rules : PortRules) (arrivals : List Arrival) (t : ℕ) (starts : List Transmission) (progress : Progress) : Type 0 where
  pub legal : AreLegal rules arrivals t starts
  pub idle : (s : ℕ) → t ≤ s → IsIdle rules arrivals starts s → progress.idle_from.0 ≤ s
  pub idle_again : (s : ℕ) → t ≤ s → progress.idle_from.0 ≤ s → IsIdle rules arrivals starts s
  pub soon : progress.idle_from.0 < 2 ^ 63
  pub eight : length progress.heads ≡ 8
  pub heads : (class : ℕ) → class < 8 → IsHeadOf arrivals starts class (slice_index_or progress.heads class None)

-- the head of the class has come by t, and is eligible at t
pub record IsReady (rules : PortRules) (arrivals : List Arrival) (heads : List (Option ℕ)) (t class index : ℕ) : Type 0 where
  pub is_head : slice_index_or heads class None ≡ Some index
  pub come : instant_of arrivals index ≤ t
  pub eligible : IsEligible rules arrivals index t

-- each head is an index of an arrival of its class
pub record AreInside (arrivals : List Arrival) (heads : List (Option ℕ)) : Type 0 where
  pub indices : (class index : ℕ) → class < 8 → slice_index_or heads class None ≡ Some index → index < length arrivals
  pub classes : (class index : ℕ) → class < 8 → slice_index_or heads class None ≡ Some index → class_of arrivals index ≡ class

-- no class from `lowest` on has a head that is ready
abbrev pub NoneReady : PortRules → List Arrival → List (Option ℕ) → ℕ → ℕ → Type 0
NoneReady rules arrivals heads t lowest = (class index : ℕ) → lowest ≤ class → class < 8 → ¬ IsReady rules arrivals heads t class index

-- the ready head of the highest class that has one
pub record IsChosen (rules : PortRules) (arrivals : List Arrival) (heads : List (Option ℕ)) (t index : ℕ) : Type 0 where
  pub class : ℕ
  pub low : class < 8
  pub ready : IsReady rules arrivals heads t class index
  pub above : NoneReady rules arrivals heads t (class + 1)

-- the instant of the last arrival of the class, or 0 if there is none
pub record IsNewest (arrivals : List Arrival) (class t : ℕ) : Type 0 where
  pub latest : (index : ℕ) → index < length arrivals → class_of arrivals index ≡ class → instant_of arrivals index ≤ t
  pub of_last : 0 < t → (index : ℕ) × IsLast arrivals class index × (instant_of arrivals index ≡ t)

-- the first arrival of the class from an index on
pub record IsNext (arrivals : List Arrival) (first class index : ℕ) : Type 0 where
  pub from_there : first ≤ index
  pub inside : index < length arrivals
  pub of_class : class_of arrivals index ≡ class
  pub none_between : (other : ℕ) → first ≤ other → other < index → class_of arrivals other ≢ class

-- that arrival, or none if there is no arrival of the class from the index on
abbrev pub IsNextOf : List Arrival → ℕ → ℕ → Option ℕ → Type 0
IsNextOf arrivals first class None = (other : ℕ) → first ≤ other → other < length arrivals → class_of arrivals other ≢ class
IsNextOf arrivals first class (Some index) = IsNext arrivals first class index

-- what a port knows after a start at t: it is idle once the gap is over, and the head of its class is the next arrival of the class
pub record IsAfterStart (octet_time : ℕ) (arrivals : List Arrival) (index t : ℕ) (before after : Progress) : Type 0 where
  pub idle_from : after.idle_from.0 ≡ idle_after t (octets_of arrivals index) octet_time
  pub soon : after.idle_from.0 < 2 ^ 63
  pub eight : length after.heads ≡ length before.heads
  pub next : IsNextOf arrivals (index + 1) (class_of arrivals index) (slice_index_or after.heads (class_of arrivals index) None)
  pub others : (class : ℕ) → class ≢ class_of arrivals index → slice_index_or after.heads class None ≡ slice_index_or before.heads class None

-- what a port knows after an arrival of a class: the arrival is the class's head if the class had none
pub record IsAfterArrival (index class : ℕ) (before after : Progress) : Type 0 where
  pub idle_from : after.idle_from.0 ≡ before.idle_from.0
  pub eight : length after.heads ≡ length before.heads
  pub head : slice_index_or before.heads class None ≡ None → slice_index_or after.heads class None ≡ Some index
  pub head_still : (other : ℕ) → slice_index_or before.heads class None ≡ Some other → slice_index_or after.heads class None ≡ Some other
  pub others : (other : ℕ) → other ≢ class → slice_index_or after.heads other None ≡ slice_index_or before.heads other None

-- the instants of the last arrivals, by class
pub record AreNewest (arrivals : List Arrival) (newest : List Nanos) : Type 0 where
  pub eight : length newest ≡ 8
  pub each : (class : ℕ) → class < 8 → IsNewest arrivals class (slice_index_or newest class (record { 0 = 0 })).0

-- more starts than before, each further one at or after an instant
pub record AreMore (before after : List Transmission) (lowest : ℕ) : Type 0 where
  pub made : List Transmission
  pub value : after ≡ before ++ made
  pub not_before : (index s : ℕ) → Contains made (index, s) → lowest ≤ s

-- what a port knows after it has handled an instant; it holds for each later instant up to the next one
pub record StepsTo (rules : PortRules) (arrivals : List Arrival) (t : ℕ) (starts : List Transmission) (progress : Progress) (next : ℕ) : Type 0 where
  pub later : t < next
  pub abreast : (e : ℕ) → t < e → e ≤ next → IsAbreast rules arrivals e starts progress

-- the invariant of a port's fields
pub record IsKept (rules : PortRules) (arrivals : List Arrival) (reached : ℕ) (starts : List Transmission) (progress : Progress)
    (newest : List Nanos) : Type 0 where
  pub abreast : IsAbreast rules arrivals reached starts progress
  pub taken : AreTaken arrivals
  pub by_class : AreNewest arrivals newest
  pub early : reached < 2 ^ 62
  pub octets_take_time : 0 < rules.octet_time

-- the invariant of the fields of a port at instant 0, for any rules
abbrev pub IsKeptByAll : List Arrival → Progress → List Nanos → Type 0
IsKeptByAll arrivals progress newest = (rules : PortRules) → 0 < rules.octet_time → IsKept rules arrivals 0 [] progress newest
