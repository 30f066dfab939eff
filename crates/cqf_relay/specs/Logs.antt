-- The frames that sources bring to a bridge, cycle by cycle.
use Rattle.std.specs.Prelude.{ℕ, ◌≡◌, ◌+◌, ◌≤◌, ◌==◌, Bool, Contains, List, filter, min}
use Rattle.std.specs.List.Sorted.{IsNonDecreasingBy}
use Rattle.cqf_relay.specs.declared.log.ArrivedFrame.{ArrivedFrame}
use Rattle.cqf_relay.specs.declared.moving.Moving.{Moving}

-- the cycle in which a frame arrived, and whether it is the given one
abbrev pub cycle_of_came : ArrivedFrame → ℕ
cycle_of_came came = came.cycle

abbrev pub is_in : ℕ → ArrivedFrame → Bool
is_in cycle came = came.cycle == cycle

-- the frames are in order of cycle
abbrev pub ByCycle : List ArrivedFrame → Type 0
ByCycle frames = IsNonDecreasingBy cycle_of_came frames

-- what arrived in cycle `before` or later is kept, in order, and nothing is added
pub record KeepsFrom (before : ℕ) (old new : List ArrivedFrame) : Type 0 where
  pub by_cycle : ByCycle old → ByCycle new
  pub kept : (cycle : ℕ) → before ≤ cycle → filter (is_in cycle) new ≡ filter (is_in cycle) old
  pub no_more : (came : ArrivedFrame) → Contains new came → Contains old came

-- the arrival of a frame of a segment whose first frame is of cycle `from`; cycles are numbered in 32 bits
abbrev pub came_by_segment : ℕ → Moving → ArrivedFrame
came_by_segment from moving =
    record { cycle = min (from + moving.after) 4294967295; at = moving.at; frame = moving.frame; row = moving.row; octets = moving.octets }
