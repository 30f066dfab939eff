-- The time for which nothing can start.
use Rattle.std.specs.Prelude.{ℕ, ◌≡◌, ◌+◌, ◌≤◌, ◌<◌, ◌⊎◌, List, Option, Some, None, slice_index_or}
use Rattle.cqf_model.specs.declared.ports.Arrival.{Arrival}
use Rattle.cqf_model.specs.GateList.{Entry, IsOpenThrough}
use Rattle.cqf_model.specs.Port.{PortRules, IsEligible, instant_of}
use Rattle.cqf_port.specs.Progress.{NoneReady}

-- from no instant from `first` up to but excluding `last` does the class stay open for `need` nanoseconds
abbrev pub FitsNowhere : List Entry → ℕ → ℕ → ℕ → ℕ → Type 0
FitsNowhere entries class need first last = (s : ℕ) → first ≤ s → s < last → ¬ IsOpenThrough entries class s (s + need)

-- at no instant from `first` up to but excluding `last` is there a head that has come and is eligible
abbrev pub IsIdleOf : PortRules → List Arrival → Option ℕ → ℕ → ℕ → Type 0
IsIdleOf rules arrivals head first last =
    (s index : ℕ) → first ≤ s → s < last → head ≡ Some index → instant_of arrivals index ≤ s → ¬ IsEligible rules arrivals index s

-- from t up to but excluding an instant no head is ready
abbrev pub IsIdleUntil : PortRules → List Arrival → List (Option ℕ) → ℕ → ℕ → Type 0
IsIdleUntil rules arrivals heads t until = (s : ℕ) → t ≤ s → s < until → NoneReady rules arrivals heads s 0

-- the head comes at the instant, or has come and is eligible
pub record Turns (rules : PortRules) (arrivals : List Arrival) (head : Option ℕ) (t : ℕ) : Type 0 where
  pub index : ℕ
  pub is_head : head ≡ Some index
  pub turns : (instant_of arrivals index ≡ t) ⊎ ((instant_of arrivals index ≤ t) × IsEligible rules arrivals index t)

-- some head comes or is ready at the instant
pub record OneTurns (rules : PortRules) (arrivals : List Arrival) (heads : List (Option ℕ)) (t : ℕ) : Type 0 where
  pub class : ℕ
  pub low : class < 8
  pub head : Turns rules arrivals (slice_index_or heads class None) t
