-- The next start, if nothing more is offered.
use Rattle.std.specs.Prelude.{ℕ, ◌≡◌, ◌+◌, ◌≤◌, ◌<◌, ◌++◌, [], ◌∷◌, List, Option, Some, None, slice_index_or}
use Rattle.cqf_model.specs.declared.ports.Arrival.{Arrival}
use Rattle.cqf_model.specs.Port.{PortRules, AreLegal, instant_of}
use Rattle.cqf_port.specs.PortState.{PortState}
use Rattle.cqf_port.specs.Progress.{NoneReady, IsChosen}

-- the next start from now on is at t: the starts so far with one more at t are legal up to t inclusive
pub record StartsNext (p : PortState) (t : ℕ) : Type 0 where
  pub from_now : p.reached ≤ t
  pub index : ℕ
  pub legal : AreLegal p.rules p.arrivals (t + 1) (p.starts ++ (index, t) ∷ [])

-- no further start would come: the starts so far remain legal up to any later end
abbrev pub StartsNoMore : PortState → Type 0
StartsNoMore p = (end : ℕ) → p.reached ≤ end → AreLegal p.rules p.arrivals end p.starts

-- the heads of the classes below `seen` have come by t
abbrev pub HaveCome : List Arrival → List (Option ℕ) → ℕ → ℕ → Type 0
HaveCome arrivals heads seen t = (class index : ℕ) → class < seen → slice_index_or heads class None ≡ Some index → instant_of arrivals index ≤ t

-- no head is ever ready from an instant on
abbrev pub NeverReady : PortRules → List Arrival → List (Option ℕ) → ℕ → Type 0
NeverReady rules arrivals heads from = (s : ℕ) → from ≤ s → NoneReady rules arrivals heads s 0

-- a head is ready at t, and none is ready before
pub record IsNextReady (rules : PortRules) (arrivals : List Arrival) (heads : List (Option ℕ)) (from t : ℕ) : Type 0 where
  pub later : from ≤ t
  pub none_before : (s : ℕ) → from ≤ s → s < t → NoneReady rules arrivals heads s 0
  pub index : ℕ
  pub chosen : IsChosen rules arrivals heads t index
