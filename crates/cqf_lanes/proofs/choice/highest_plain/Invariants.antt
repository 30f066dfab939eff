-- The bits tested so far aren't set.
use Rattle.std.proofs.Common.{ℕ, ◌≡◌, ◌<◌, ◌≤◌, ◌-◌, ◌^◌, bit_and}
use Rattle.cqf_lanes.proofs.choice.highest_plain.Given as goal

abbrev pub invariant-loop-above : goal.invariant-loop-above
invariant-loop-above l = (bit : ℕ) → 8 - l.above ≤ bit → bit < 8 → bit_and l.mask (2 ^ bit) ≡ 0
