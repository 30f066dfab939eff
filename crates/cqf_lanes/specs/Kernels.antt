-- The kernels' results, defined without lanes.
use Rattle.std.specs.Prelude.{ℕ, ◌≤◌, ◌<◌, ◌==◌, ◌^◌, ◌↔◌, List, Bool, not, if◌then◌else◌, bit_and, IsBitSet, slice_index, sum_by}
use Rattle.std.specs.List.{prefix_len, zip}

-- the test of one bit, the lowest being bit 0: std's IsBitSet as a truth value
abbrev pub has_bit : ℕ → ℕ → Bool
has_bit mask bit = not (bit_and mask (2 ^ bit) == 0)

-- the sum of those costs whose mask, at the same index, has the bit
abbrev pub masked_total : ℕ → List ℕ → List ℕ → ℕ
masked_total bit costs masks = sum_by (λ (index : ℕ × ℕ). if has_bit index.1 bit then index.0 else 0) (zip costs masks)

-- the number of entries, from the first on, that open the class: the length of the longest prefix of states that all have its bit
abbrev pub open_run_of : ℕ → List ℕ → ℕ
open_run_of class states = prefix_len (λ gates. has_bit gates class) states

-- of eight classes, those are eligible that have an open gate and need no more than is left to them
abbrev pub AreEligible : ℕ → List ℕ → List ℕ → ℕ → Type 0
AreEligible gates need left classes =
    (class : ℕ) → class < 8 → IsBitSet classes class ↔ (IsBitSet gates class × (slice_index need class ≤ slice_index left class))

-- `bit` is the greatest bit of a mask of eight bits
pub record IsHighest (mask bit : ℕ) : Type 0 where
  pub low : bit < 8
  pub is_set : IsBitSet mask bit
  pub none_above : (above : ℕ) → bit < above → ¬ IsBitSet mask above
