-- The times for which classes stay open.
use Rattle.std.specs.Prelude.{ℕ, ◌≡◌, ◌+◌, ◌-◌, ◌^◌, ◌≤◌, ◌<◌, ◌↔◌, List, [], length, take, slice_index_or}
use Rattle.cqf_model.specs.GateList.{Entry, InForce, IsOpenThrough, round_of, states_at}

-- the class stays open for `span` nanoseconds from t on: what needs no longer fits, and what needs longer doesn't. Only needs below the
-- bound count, so that a large number can represent a class that never closes
abbrev pub IsSpan : List Entry → ℕ → ℕ → ℕ → ℕ → Type 0
IsSpan entries class t bound span = (need : ℕ) → 0 < need → need < bound → (IsOpenThrough entries class t (t + need) ↔ (need ≤ span))

-- the times for which the eight classes stay open from t on
pub record AreSpansAt (entries : List Entry) (t bound : ℕ) (row : List ℕ) : Type 0 where
  pub eight : length row ≡ 8
  pub each : (class : ℕ) → class < 8 → IsSpan entries class t bound (slice_index_or row class 0)

-- the times for which they stay open from the beginning of each entry on, in the first round
pub record AreSpans (entries : List Entry) (spans : List (List ℕ)) : Type 0 where
  pub few : length entries ≤ 16
  pub sixteen : length spans ≡ 16
  pub rows : (index : ℕ) → index < length entries → AreSpansAt entries (round_of (take index entries)) (2 ^ 63) (slice_index_or spans index [])

-- each of eight numbers is less by this much, but not below 0
pub record AreLess (row : List ℕ) (much : ℕ) (left : List ℕ) : Type 0 where
  pub eight : length left ≡ 8
  pub each : (class : ℕ) → class < 8 → slice_index_or left class 0 ≡ slice_index_or row class 0 - much

-- the next entry begins after t, no gate changes before it does, and the list has repeated at `again`, one round after t
pub record IsAhead (entries : List Entry) (t index begins again : ℕ) : Type 0 where
  pub later : t < begins
  pub force : InForce entries begins index 0
  pub steady : (s : ℕ) → t ≤ s → s < begins → states_at entries s ≡ states_at entries t
  pub round : again ≡ t + round_of entries
  pub soon : again < t + 2 ^ 37
