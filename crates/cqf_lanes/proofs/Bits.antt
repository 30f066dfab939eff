-- Bits that are set, and the masks of comparisons.
use Rattle.std.proofs.Common.{ℕ, ◌≡◌, ◌≢◌, ◌+◌, ◌-◌, ◌*◌, ◌/◌, ◌%◌, ◌^◌, ◌<◌, ◌≤◌, ◌↔◌, ◌⊎◌, suc, List, Bool, true}
use Rattle.std.proofs.Common.{false, cond, eqb, leb, not, length, get_or, map, bit_and, IsBitSet, w8, w32, sym, ap, ◌∙◌}
use Rattle.std.proofs.Common.{subst, inl, inr, arith}
use Rattle.std.specs.Int.{bit_at, bit_not}
use lib.Count.{count_leading_zeros}
use Rattle.std.specs.Simd.Lanes.{zip2, mask_l, top}
use Rattle.std.proofs.lemmas.Bool.{cases_eq, cases_lt, eq-eqb, ne_eqb}
use Rattle.std.proofs.lemmas.Bool.Decides.{leb_tells}
use Rattle.std.proofs.lemmas.Nat.{leading_top, pow_pos}
use Rattle.std.proofs.Math.Nat.{div-eq_of_lt-le, pow-suc}
use Rattle.std.proofs.lemmas.Nat.Bits.{and_pow, bit_at-lt, bit_at_and, bit_at_above, bit_at_clear_same, bit_at_clear_other, same_from_bits_below, bit_at-zero}
use Rattle.std.proofs.lemmas.Simd.{tops_compared, length-zip2, mask_l-lt, mask_l-mod, bit_mask_l, get_or-zip2}
use Rattle.cqf_lanes.specs.Kernels.{AreEligible, IsHighest, has_bit}

-- a bit that is set is 1
pub one_from_set : (n k : ℕ) → IsBitSet n k → bit_at n k ≡ 1
one_from_set n k is_set = elim (cases_eq (bit_at n k) 0) [
  | inl none ↦ absurd (is_set (and_pow n k ∙ ap (λ b. b * 2 ^ k) none ∙ omega arith))
  | inr some ↦ omega (arith, bit_at-lt n k)
]

-- a bit that is 1 is set
pub set_from_one : (n k : ℕ) → bit_at n k ≡ 1 → IsBitSet n k
set_from_one n k one nothing =
    let whole : bit_and n (2 ^ k) ≡ 1 * 2 ^ k = and_pow n k ∙ ap (λ b. b * 2 ^ k) one in
    omega (arith, pow_pos k, whole, nothing)

-- a bit that is 0 isn't set
pub unset_from_zero : (n k : ℕ) → bit_at n k ≡ 0 → ¬ IsBitSet n k
unset_from_zero n k none is_set = omega (arith, one_from_set n k is_set)

-- a bit that isn't set is 0
pub zero_from_unset : (n k : ℕ) → bit_and n (2 ^ k) ≡ 0 → bit_at n k ≡ 0
zero_from_unset n k unset = elim (cases_eq (bit_at n k) 0) [
  | inl none ↦ none
  | inr some ↦ absurd (set_from_one n k (omega (arith, bit_at-lt n k)) unset)
]

-- if the bit's value in the mask isn't 0, the bit's test passes
pub has_from_nonzero : (mask bit power : ℕ) → power ≡ 2 ^ bit → bit_and mask power ≢ 0 → has_bit mask bit ≡ true
has_from_nonzero mask bit power is some = subst (λ p. not (eqb (bit_and mask p) 0) ≡ true) is (ap not (ne_eqb (bit_and mask power) 0 some))

-- if it is 0, the test fails
pub lacks_from_zero : (mask bit power : ℕ) → power ≡ 2 ^ bit → bit_and mask power ≡ 0 → has_bit mask bit ≡ false
lacks_from_zero mask bit power is none = subst (λ p. not (eqb (bit_and mask p) 0) ≡ false) is (ap not (eq-eqb (bit_and mask power) 0 none))

-- the bit of a test's value is set if and only if the test passes
pub bit_of_test : (t : Bool) (bit m n : ℕ) → bit ≡ cond t 1 0 → ((t ≡ true) × (m ≤ n)) ⊎ ((t ≡ false) × (n < m)) → (bit ≡ 1) ↔ (m ≤ n)
bit_of_test t bit m n is (inl passes) = (λ one. passes.1, λ le. is ∙ ap (λ b. cond b 1 0) passes.0)
bit_of_test t bit m n is (inr fails) = (
  λ one. absurd (let none : bit ≡ 0 = is ∙ ap (λ b. cond b 1 0) fails.0 in omega arith),
  λ le.
      absurd (omega (arith, fails.1)),
)

-- bit k of the mask of eight comparisons is the comparison in lane k
pub compared_bit : (need left : List ℕ) (class : ℕ) → length need ≡ 8 → length left ≡ 8 → class < 8 →
    (bit_at (mask_l (zip2 leb need left)) class ≡ 1) ↔ (get_or need class 0 ≤ get_or left class 0)
compared_bit need left class long wide low =
    let lane : bit_at (mask_l (zip2 leb need left)) class ≡ cond (leb (get_or need class 0) (get_or left class 0)) 1 0 =
    bit_mask_l (zip2 leb need left) class ∙ ap (λ b. cond b 1 0) (get_or-zip2 leb need left class 0 0 false (omega arith) (omega arith)) in
    bit_of_test (leb (get_or need class 0) (get_or left class 0)) _ (get_or need class 0) (get_or left class 0) lane
    (leb_tells (get_or need class 0) (get_or left class 0))

-- the mask of eight comparisons, as vectors compute it
pub compared_mask : (need left : List ℕ) → length need ≡ 8 → length left ≡ 8 →
    mask_l (map (top 31) (zip2 (λ a b. cond (leb a b) (2 ^ 32 - 1) 0) need left)) % 2 ^ 64 ≡ mask_l (zip2 leb need left)
compared_mask need left long wide =
    ap (λ ms. mask_l ms % 2 ^ 64) (tops_compared w32 leb need left)
    ∙ mask_l-mod (zip2 leb need left) 64 (omega (arith, length-zip2 leb need left (long ∙ sym wide)))

-- it has eight bits
pub compared_small : (need left : List ℕ) → length need ≡ 8 → length left ≡ 8 → mask_l (zip2 leb need left) < 256
compared_small need left long wide =
    let eight : length (zip2 leb need left) ≡ 8 = length-zip2 leb need left (long ∙ sym wide) ∙ long in
    subst (λ n. mask_l (zip2 leb need left) < 2 ^ n) eight (mask_l-lt (zip2 leb need left))

-- the eligible classes are the open ones whose comparison holds
pub eligible_from_mask : (gates mask : ℕ) (need left : List ℕ) → length need ≡ 8 → length left ≡ 8 → mask ≡ mask_l (zip2 leb need left) →
    AreEligible gates need left (bit_and gates mask)
eligible_from_mask gates mask need left long wide is class low =
    let compared = compared_bit need left class long wide low in
    let same : bit_at mask class ≡ bit_at (mask_l (zip2 leb need left)) class = ap (λ m. bit_at m class) is in
    let both = bit_at_and gates mask class in (
      λ eligible.
          let one = one_from_set (bit_and gates mask) class eligible in (
            set_from_one gates class (omega (arith, bit_at-lt gates class, bit_at-lt mask class)),
            compared.0
                (sym same ∙ omega (arith, bit_at-lt gates class, bit_at-lt mask class)),
          ),
      λ open_in_time.
          let open_bit = one_from_set gates class open_in_time.0 in
          let in_time : bit_at mask class ≡ 1 = same ∙ compared.1 open_in_time.1 in
          set_from_one (bit_and gates mask) class (omega arith),
    )

-- the remaining classes are those with an open gate that are in time or haven't been tested yet
abbrev pub AreLeft : ℕ → List ℕ → List ℕ → ℕ → ℕ → Type 0
AreLeft gates need left seen classes = (class : ℕ) → class < 8 →
    IsBitSet classes class ↔ (IsBitSet gates class × (class < seen → get_or need class 0 ≤ get_or left class 0))

-- a class that needs more than is left is cleared
pub left_cleared : (gates seen classes : ℕ) (need left : List ℕ) → seen < 8 → AreLeft gates need left seen classes →
    get_or left seen 0 < get_or need seen 0 → AreLeft gates need left (seen + 1) (bit_and classes (bit_not w8 (1 * 2 ^ seen % 256)))
left_cleared gates seen classes need left low so_far short class in_range = elim (cases_eq class seen) [
  | inl here ↦ (
    λ is_set. absurd (unset_from_zero _ class (ap (bit_at _) here ∙ bit_at_clear_same w8 classes seen low) is_set),
    λ in_time. absurd (let in_need : get_or need class 0 ≤ get_or left class 0 =
        in_time.1 (omega arith) in let here_need : get_or need seen 0 ≤ get_or left seen 0 =
        subst (λ k. get_or need k 0 ≤ get_or left k 0) here in_need in omega arith),
  )
  | inr other ↦
      let same = bit_at_clear_other w8 classes seen low class in_range other in (
        λ is_set.
            let before = (so_far class in_range).0 (set_from_one classes class (sym same ∙ one_from_set _ class is_set)) in
            (before.0, λ looked. before.1 (omega arith)),
        λ in_time. set_from_one _ class (same ∙ one_from_set classes class ((so_far class in_range).1 (in_time.0, λ looked. in_time.1 (omega arith)))),
      )
]

-- a class that is in time remains
pub left_kept : (gates seen classes : ℕ) (need left : List ℕ) → AreLeft gates need left seen classes → get_or need seen 0 ≤ get_or left seen 0
    → AreLeft gates need left (seen + 1) classes
left_kept gates seen classes need left so_far fits class in_range = (
  λ is_set.
      let before = (so_far class in_range).0 is_set in (
        before.0,
        λ looked. elim (cases_eq class seen) [
          | inl here ↦ subst (λ k. get_or need k 0 ≤ get_or left k 0) (sym here) fits
          | inr other
              ↦ before.1 (omega arith)
        ],
      ),
  λ in_time. (so_far class in_range).1 (in_time.0, λ looked. in_time.1 (omega arith)),
)

-- the greatest bit, from the powers of two around the mask
pub highest_from_leading : (mask bit : ℕ) → bit < 8 → 2 ^ bit ≤ mask → mask < 2 ^ suc bit → IsHighest mask bit
highest_from_leading mask bit low from below = record {
  low = low;
  is_set = set_from_one mask bit (
      let quotient : mask / 2 ^ bit ≡ 1 = div-eq_of_lt-le (2 ^ bit) (omega arith) (omega (arith, pow-suc 2 bit)) in
      ap (λ n. n % 2) quotient);
  none_above = λ above higher is_set. unset_from_zero mask above (bit_at_above mask (suc bit) above below (omega arith)) is_set;
}

-- the greatest bit of a nonzero mask, from its leading zeros
pub highest_by_leading : (mask zeros : ℕ) → mask ≢ 0 → mask < 256 → zeros ≡ count_leading_zeros 8 mask → IsHighest mask (7 - zeros)
highest_by_leading mask zeros some small is =
    let top_bit = leading_top 8 mask (omega arith) small in
    subst (λ bit. IsHighest mask bit) (let same : top_bit.0 ≡ 7 - zeros = omega (arith, top_bit.1) in same)
    (highest_from_leading mask top_bit.0 (omega (arith, top_bit.1)) top_bit.2 top_bit.3)

-- the greatest bit, if no bit above it is set
pub highest_by_search : (mask seen power : ℕ) → mask < 256 → seen < 8 → ((bit : ℕ) → 8 - seen ≤ bit → bit < 8 → bit_and mask (2 ^ bit) ≡ 0)
    → power ≡ 2 ^ (7 - seen) → bit_and mask power ≢ 0 → IsHighest mask (7 - seen)
highest_by_search mask seen power small low looked is some = record {
  low = omega arith;
  is_set = subst (λ p. bit_and mask p ≢ 0) is some;
  none_above = λ above higher is_set. elim (cases_lt above 8) [
    | inl inside ↦ is_set (looked above (omega arith) inside)
    | inr outside ↦ unset_from_zero mask above (bit_at_above mask 8 above small outside) is_set
  ];
}

-- if no bit was found, the mask is 0
pub none_by_search : (mask seen : ℕ) → mask < 256 → 8 ≤ seen → ((bit : ℕ) → 8 - seen ≤ bit → bit < 8 → bit_and mask (2 ^ bit) ≡ 0) → mask ≡ 0
none_by_search mask seen small all looked = same_from_bits_below 8 mask 0 small (omega arith)
    (λ bit inside. zero_from_unset mask bit (looked bit (omega arith) inside) ∙ sym (bit_at-zero bit))

-- one more bit isn't set
pub search_goes_on : (mask seen power : ℕ) → seen < 8 → ((bit : ℕ) → 8 - seen ≤ bit → bit < 8 → bit_and mask (2 ^ bit) ≡ 0) → power
    ≡ 2 ^ (7 - seen) → bit_and mask power ≡ 0 → (bit : ℕ) → 8 - (seen + 1) ≤ bit → bit < 8 → bit_and mask (2 ^ bit) ≡ 0
search_goes_on mask seen power low looked is none bit from below = elim (cases_eq bit (7 - seen)) [
  | inl here ↦ ap (λ b. bit_and mask (2 ^ b)) here ∙ ap (bit_and mask) (sym is) ∙ none
  | inr other ↦ looked bit (omega arith) below
]
