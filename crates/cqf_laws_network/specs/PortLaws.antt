-- Laws about what an output port may send.
use Rattle.std.specs.Prelude.{ℕ, ◌≡◌, ◌≤◌, ◌<◌, List, [], ◌∷◌, ◌++◌, filter, nat_lt, length, slice_index_or}
use Rattle.cqf_model.specs.declared.ports.Arrival.{Arrival}
use Rattle.cqf_model.specs.GateList.{IsOpen}
use Rattle.cqf_model.specs.Port.{Transmission, PortRules, AreLegal, instant_of, no_arrival}

-- what a port sends is determined: no two lists of transmissions are legal for the same gate list, link and arrivals
abbrev pub LegalStartsAreUnique : Type 0
LegalStartsAreUnique =
    (rules : PortRules) (arrivals : List Arrival) (end : ℕ) (starts others : List Transmission) → AreLegal rules arrivals end starts →
    AreLegal rules arrivals end others → starts ≡ others

-- a port can always continue: some list of transmissions is legal, regardless of the gate list, link and arrivals
abbrev pub LegalStartsExist : Type 0
LegalStartsExist = (rules : PortRules) (arrivals : List Arrival) (end : ℕ) → (starts : List Transmission) × AreLegal rules arrivals end starts

-- the transmissions that start before an instant
abbrev pub starts_before : ℕ → List Transmission → List Transmission
starts_before end starts = filter (λ (start : Transmission). nat_lt start.1 end) starts

-- a port doesn't look ahead: the part of its legal transmissions before an earlier end is legal up to that end
abbrev pub LegalPartIsLegal : Type 0
LegalPartIsLegal =
    (rules : PortRules) (arrivals : List Arrival) (earlier end : ℕ) (starts : List Transmission) → earlier ≤ end → AreLegal rules arrivals end starts →
    AreLegal rules arrivals earlier (starts_before earlier starts)

-- each arrival of one list that comes before an instant is in the other list, at the same index
abbrev pub HasAllBefore : ℕ → List Arrival → List Arrival → Type 0
HasAllBefore earlier arrivals others =
    (index : ℕ) → index < length arrivals → instant_of arrivals index < earlier → (index < length others) ×
    (slice_index_or arrivals index no_arrival ≡ slice_index_or others index no_arrival)

-- the part of a port's legal transmissions before an instant is legal up to it for any arrivals that are the same before it
abbrev pub LegalPartIsLegalForTheSamePast : Type 0
LegalPartIsLegalForTheSamePast =
    (rules : PortRules) (arrivals others : List Arrival) (earlier end : ℕ) (starts : List Transmission) → earlier ≤ end → HasAllBefore earlier arrivals others →
    HasAllBefore earlier others arrivals → AreLegal rules arrivals end starts → AreLegal rules others earlier (starts_before earlier starts)

-- only the past matters: two ports with the same rules and the same arrivals before an instant send the same before it
abbrev pub OnlyThePastCounts : Type 0
OnlyThePastCounts =
    (rules : PortRules) (arrivals others : List Arrival) (earlier end other_end : ℕ) (starts other_starts : List Transmission) → earlier ≤ end →
    earlier ≤ other_end → HasAllBefore earlier arrivals others → HasAllBefore earlier others arrivals → AreLegal rules arrivals end starts →
    AreLegal rules others other_end other_starts → starts_before earlier starts ≡ starts_before earlier other_starts

-- an arrival that is reported late changes nothing if its class has been closed at each instant since it came: what was legal without it is
-- legal with it
abbrev pub LateArrivalChangesNothing : Type 0
LateArrivalChangesNothing =
    (rules : PortRules) (arrivals : List Arrival) (late : Arrival) (reached : ℕ) (starts : List Transmission) → 0 < rules.octet_time →
    ((t : ℕ) → late.at.0 ≤ t → t < reached → ¬ IsOpen rules.entries late.class t) → AreLegal rules arrivals reached starts →
    AreLegal rules (arrivals ++ late ∷ []) reached starts
