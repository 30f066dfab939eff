-- Laws about gate control lists.
use Rattle.std.specs.Prelude.{ℕ, ◌≡◌, ◌≤◌, ◌<◌, ◌↔◌, List, length, slice_index_or}
use Rattle.cqf_model.specs.declared.gates.OpenFor.{OpenFor}
use Rattle.cqf_model.specs.declared.gates.OpenFor.TheVariants.{Closed, Always, Until}
use Rattle.cqf_units.specs.Timing.{ending_of}
use Rattle.cqf_model.specs.GateList.{Entry, InForce, IsOpenFor, IsOpenThrough, round_of, states_at}

-- the states in force at an instant are those of the entry whose span, repeated without end from instant 0, contains the instant
abbrev pub StatesAreOfTheEntry : Type 0
StatesAreOfTheEntry =
    (entries : List Entry) (t index offset : ℕ) → InForce entries t index offset → states_at entries t ≡ (slice_index_or entries index (0, 0)).0

-- a round has a positive duration if any entry has
abbrev pub RoundTakesTime : Type 0
RoundTakesTime = (entries : List Entry) (index : ℕ) → index < length entries → 0 < (slice_index_or entries index (0, 0)).1 → 0 < round_of entries

-- if a round has a positive duration, some entry is in force at each instant
abbrev pub SomeEntryIsInForce : Type 0
SomeEntryIsInForce =
    (entries : List Entry) (t : ℕ) → 0 < round_of entries → (index : ℕ) × (offset : ℕ) × InForce entries t index offset

-- at most one entry is in force at an instant, at one offset
abbrev pub OneEntryIsInForce : Type 0
OneEntryIsInForce =
    (entries : List Entry) (t index offset other other_offset : ℕ) → InForce entries t index offset → InForce entries t other other_offset → (index ≡ other) ×
    (offset ≡ other_offset)

-- a frame with this ending is sent before the next close of its gate
abbrev pub Fits : OpenFor → ℕ → Type 0
Fits Closed ending = ⊥
Fits Always ending = Unit {0}
Fits (Until end) ending = ending ≤ end.0

-- the class stays open for a whole frame from t on if and only if it stays open for good, or until the frame's end or later: there is time
-- to send the frame before the next gate-close event (IEEE Std 802.1Q-2018, 8.6.8.4)
abbrev pub FrameFitsWhileOpen : Type 0
FrameFitsWhileOpen =
    (entries : List Entry) (class t octets octet_time : ℕ) (open_for : OpenFor) → 0 < round_of entries → 0 < octet_time → IsOpenFor entries class t open_for →
    (let ending = ending_of t octets octet_time in (IsOpenThrough entries class t ending ↔ Fits open_for ending))
