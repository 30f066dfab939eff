-- What the classes of a port need at an instant.
use Rattle.std.specs.Prelude.{ℕ, ◌≡◌, ◌+◌, ◌*◌, ◌^◌, ◌≤◌, ◌<◌, ◌↔◌, List, length, Option, Some, None, IsBitSet, slice_index_or}
use Rattle.cqf_model.specs.declared.ports.Arrival.{Arrival}
use Rattle.cqf_units.specs.Timing.{time_of}
use Rattle.cqf_model.specs.Port.{instant_of, octets_of}

-- the class has a head, which has come by t and takes no longer than is left
pub record HeadFits (octet_time : ℕ) (arrivals : List Arrival) (head : Option ℕ) (t left : ℕ) : Type 0 where
  pub index : ℕ
  pub is_head : head ≡ Some index
  pub come : instant_of arrivals index ≤ t
  pub fits : time_of (octets_of arrivals index + 8) octet_time ≤ left

-- the class has no head, or its head hasn't come by t or takes longer than is left
abbrev pub NoHeadFits : ℕ → List Arrival → Option ℕ → ℕ → ℕ → Type 0
NoHeadFits octet_time arrivals head t left = ¬ HeadFits octet_time arrivals head t left

-- the head takes less than 2^43 nanoseconds
abbrev pub IsShortFrame : ℕ → List Arrival → Option ℕ → Type 0
IsShortFrame octet_time arrivals head = (index : ℕ) → head ≡ Some index → time_of (octets_of arrivals index + 8) octet_time < 2 ^ 43

-- a class below `seen` is set and needs no longer than is left exactly if its head fits; the classes from `seen` on aren't set
pub record AreAsked (octet_time : ℕ) (arrivals : List Arrival) (heads : List (Option ℕ)) (t : ℕ) (spans : List ℕ) (seen classes : ℕ)
    (need left : List ℕ) : Type 0 where
  pub eight_need : length need ≡ 8
  pub eight_left : length left ≡ 8
  pub each : (class : ℕ) → class < 8 → class < seen →
      (IsBitSet classes class × (slice_index_or need class 0 ≤ slice_index_or left class 0))
      ↔ HeadFits octet_time arrivals (slice_index_or heads class None) t (slice_index_or spans class 0)
  pub short : (class : ℕ) → class < 8 → class < seen → IsShortFrame octet_time arrivals (slice_index_or heads class None)
  pub others : (class : ℕ) → class < 8 → seen ≤ class → ¬ IsBitSet classes class
