-- Runs of entries that open a class.
use Rattle.std.proofs.Common.{ℕ, ◌≡◌, ◌+◌, ◌-◌, ◌/◌, ◌%◌, ◌^◌, ◌<◌, ◌≤◌, List, Bool, true, false, not, cond, eqb}
use Rattle.std.proofs.Common.{length, take, drop, map, get_or, bit_and, replicate, w8, w64, refl, sym, ap, ◌∙◌, subst}
use Rattle.std.proofs.Common.{inl, inr, arith}
use Rattle.std.specs.List.{prefix_len}
use Rattle.std.specs.Simd.Lanes.{chunk, mask_l, zip2, top}
use lib.Count.{count_trailing_zeros}
use Rattle.std.proofs.lemmas.Bool.{cases_lt, not-true, not-false}
use Rattle.std.proofs.lemmas.List.{get_or-drop, length-drop, length-map, get_or_past, take_rest}
use Rattle.std.proofs.lemmas.Nat.Bits.{bit_at-trailing_zeros}
use Rattle.std.proofs.lemmas.List.Sums.{prefix_len_is, prefix_len-le-length, prefix_len_passes, prefix_len_stops}
use Rattle.std.proofs.lemmas.Simd.{bitmask_splat, zip2_splat, length-zip2, mask_l-lt, bit_mask_l, map-map, length-chunk}
use Rattle.std.proofs.lemmas.Simd.{trailing_mask_l, run_in_chunk_le, run_in_chunk_fails, run_in_chunk_stops}
use Rattle.std.proofs.lemmas.Simd.{none_from_empty_mask}
use Rattle.cqf_lanes.specs.Kernels.{has_bit, open_run_of}

-- the gates close the class
abbrev pub closes : ℕ → ℕ → Bool
closes class gates = not (has_bit gates class)

-- a double negation
twice : (b : Bool) → not (not b) ≡ b
twice true = refl
twice false = refl

-- the mask of sixteen entries, as vectors compute it
pub closed_mask : (class power : ℕ) (states : List ℕ) → power ≡ 2 ^ class → length states ≡ 16 →
    mask_l (map (top 7) (zip2 (λ a b. cond (eqb a b) (2 ^ 8 - 1) 0) (zip2 bit_and states (replicate 16 power)) (replicate 16 0))) % 2 ^ 64
    ≡ mask_l (map (closes class) states)
closed_mask class power states is long =
    let opened : zip2 bit_and states (replicate 16 power) ≡ map (λ gates. bit_and gates power) states = zip2_splat bit_and states 16 power long in
    bitmask_splat w8 eqb (zip2 bit_and states (replicate 16 power)) 16 0 (length-zip2 bit_and states (replicate 16 power) long ∙ long) (omega arith)
    ∙ ap (λ xs. mask_l (map (λ x. eqb x 0) xs)) opened
    ∙ ap mask_l (map-map (λ x. eqb x 0) (λ gates. bit_and gates power) states)
    ∙ ap (λ p. mask_l (map (λ gates. eqb (bit_and gates p) 0) states)) is
    ∙ (λ i. mask_l (map (λ gates. sym (twice (eqb (bit_and gates (2 ^ class)) 0)) i) states))

-- if the first entries open the class and the next one doesn't or is past the end, they are the run
pub run_ends : (class run : ℕ) (states : List ℕ) → run ≤ length states → ((k : ℕ) → k < run → has_bit (get_or states k 0) class ≡ true) →
    (run < length states → has_bit (get_or states run 0) class ≡ false) → run ≡ open_run_of class states
run_ends class run states inside opened ended = sym (prefix_len_is (λ gates. has_bit gates class) states run 0 inside opened ended)

-- the lowest bit of a nonzero mask of sixteen is below 16
within_chunk : (marks : List Bool) (mask : ℕ) → length marks ≡ 16 → mask ≡ mask_l marks → 0 < mask → count_trailing_zeros 64 mask < 16
within_chunk marks mask long is some =
    let small : mask_l marks < 2 ^ 16 = subst (λ n. mask_l marks < 2 ^ n) long (mask_l-lt marks) in
    let lowest = bit_at-trailing_zeros w64 mask some (omega arith) in
    elim (cases_lt (count_trailing_zeros 64 mask) 16) [
      | inl within ↦ within
      | inr past ↦
          let mark : mask_l marks / 2 ^ count_trailing_zeros 64 mask % 2 ≡ 0 = bit_mask_l marks (count_trailing_zeros 64 mask)
          ∙ ap (λ b. cond b 1 0) (get_or_past marks (count_trailing_zeros 64 mask) false (omega arith)) in
          let one : mask_l marks / 2 ^ count_trailing_zeros 64 mask % 2 ≡ 1 = ap (λ m. m / 2 ^ count_trailing_zeros 64 mask % 2) (sym is) ∙ lowest.1 in
          absurd (omega arith)
    ]

-- the first of sixteen that closes the class ends the run
pub run_ends_in_chunk : (class done mask : ℕ) (states : List ℕ) → done + 16 ≤ length states →
    ((k : ℕ) → k < done → has_bit (get_or states k 0) class ≡ true) → mask ≡ mask_l (map (closes class) (chunk done 16 states)) → 0 < mask →
    done + count_trailing_zeros 64 mask ≡ open_run_of class states
run_ends_in_chunk class done mask states inside opened is some =
    let run : ℕ = count_trailing_zeros 64 mask in
    let long : length (chunk done 16 states) ≡ 16 = length-chunk done 16 states inside in
    let counted : run ≡ prefix_len (λ gates. not (closes class gates)) (chunk done 16 states) =
    ap (count_trailing_zeros 64) is ∙ trailing_mask_l (closes class) 64 (chunk done 16 states) (omega arith) (subst (λ n. 0 < n) is some) in
    let short = run_in_chunk_le (closes class) states done 16 run 0 inside counted in
    run_ends class (done + run) states (omega arith)
    (λ k below. elim (cases_lt k done) [
      | inl before ↦ opened k before
      | inr later ↦ not-false _ (run_in_chunk_fails (closes class) states done 16 run 0 inside counted k (omega arith) (omega arith))
    ])
    (λ more. not-true _ (run_in_chunk_stops (closes class) states done 16 run 0 inside counted
    (within_chunk (map (closes class) (chunk done 16 states)) mask (length-map (chunk done 16 states) (closes class) ∙ long) is some)))

-- if none of sixteen closes the class, the run continues
pub run_goes_on : (class done mask : ℕ) (states : List ℕ) → done + 16 ≤ length states → ((k : ℕ) → k < done → has_bit (get_or states k 0) class ≡ true)
    → mask ≡ mask_l (map (closes class) (chunk done 16 states)) → mask ≡ 0 → (k : ℕ) → k < done + 16 → has_bit (get_or states k 0) class ≡ true
run_goes_on class done mask states inside opened is none k below = elim (cases_lt k done) [
  | inl before ↦ opened k before
  | inr later ↦ not-false _ (none_from_empty_mask (closes class) states done 16 0 inside (sym is ∙ none) k (omega arith) below)
]

-- after entries that open the class, the run continues with that of the rest
pub run_of_rest : (class done run : ℕ) (states rest : List ℕ) → done ≤ length states → rest ≡ take (length states - done) (drop done states)
    → ((k : ℕ) → k < done → has_bit (get_or states k 0) class ≡ true) → run ≡ open_run_of class rest → done + run ≡ open_run_of class states
run_of_rest class done run states rest inside following opened counted =
    let is : rest ≡ drop done states = following ∙ take_rest states done in
    let there : (k : ℕ) → get_or rest k 0 ≡ get_or states (done + k) 0 = λ k. ap (λ xs. get_or xs k 0) is ∙ get_or-drop done states k 0 in
    let long : length rest ≡ length states - done = ap length is ∙ length-drop done states in
    let counted_here : run ≡ prefix_len (λ gates. has_bit gates class) rest = counted in
    let short = prefix_len-le-length (λ gates. has_bit gates class) rest in
    run_ends class (done + run) states (omega arith)
    (λ k below. elim (cases_lt k done) [
      | inl before ↦ opened k before
      | inr later ↦
          let back : done + (k - done) ≡ k = omega arith in
          subst (λ x. has_bit x class ≡ true) (there (k - done) ∙ ap (λ j. get_or states j 0) back)
          (prefix_len_passes (λ gates. has_bit gates class) rest (k - done) 0 (omega arith))
    ])
    (λ more. subst (λ x. has_bit x class ≡ false) (ap (λ j. get_or rest j 0) (sym counted_here) ∙ there run)
    (prefix_len_stops (λ gates. has_bit gates class) rest 0 (omega arith)))

-- one more entry opens the class
pub run_goes_on_by_one : (class done : ℕ) (states : List ℕ) → ((k : ℕ) → k < done → has_bit (get_or states k 0) class ≡ true) →
    has_bit (get_or states done 0) class ≡ true → (k : ℕ) → k < done + 1 → has_bit (get_or states k 0) class ≡ true
run_goes_on_by_one class done states opened here k below = elim (cases_lt k done) [
  | inl before ↦ opened k before
  | inr later ↦ subst (λ j. has_bit (get_or states j 0) class ≡ true) (let same : done ≡ k = omega arith in same) here
]
