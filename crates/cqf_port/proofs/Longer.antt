-- Arrivals with one more at the end.
use Rattle.std.proofs.Common.{ℕ, ◌≡◌, ◌+◌, ◌<◌, List, [], ◌∷◌, ◌++◌, length, get_or, sym, subst, length-append}
use Rattle.std.proofs.lemmas.List.{get_or_append_left}
use Rattle.std.proofs.Math.Seq.{get_or-append_seam}
use Rattle.cqf_model.specs.declared.ports.Arrival.{Arrival}
use Rattle.cqf_model.specs.Port.{no_arrival}

-- the list is one longer
pub longer : (arrivals : List Arrival) (arrival : Arrival) → length (arrivals ++ arrival ∷ []) ≡ length arrivals + 1
longer arrivals arrival = length-append arrivals (arrival ∷ [])

-- the earlier arrivals are unchanged
pub same_arrival : (arrivals : List Arrival) (arrival : Arrival) (index : ℕ) → index < length arrivals →
    get_or (arrivals ++ arrival ∷ []) index no_arrival ≡ get_or arrivals index no_arrival
same_arrival arrivals arrival index inside = get_or_append_left arrivals (arrival ∷ []) no_arrival index inside

-- the last arrival is the new one
pub last_arrival : (arrivals : List Arrival) (arrival : Arrival) → get_or (arrivals ++ arrival ∷ []) (length arrivals) no_arrival ≡ arrival
last_arrival arrivals arrival = get_or-append_seam arrivals arrival [] no_arrival

-- a property of an earlier arrival remains
pub arrival_after : (arrivals : List Arrival) (arrival : Arrival) (P : Arrival → Type 0) (index : ℕ) → index < length arrivals →
    P (get_or arrivals index no_arrival) → P (get_or (arrivals ++ arrival ∷ []) index no_arrival)
arrival_after arrivals arrival P index inside = subst P (sym (same_arrival arrivals arrival index inside))

-- and the other way round
pub arrival_before : (arrivals : List Arrival) (arrival : Arrival) (P : Arrival → Type 0) (index : ℕ) → index < length arrivals →
    P (get_or (arrivals ++ arrival ∷ []) index no_arrival) → P (get_or arrivals index no_arrival)
arrival_before arrivals arrival P index inside = subst P (same_arrival arrivals arrival index inside)
