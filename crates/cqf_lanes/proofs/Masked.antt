-- Sums of the costs whose mask has a bit.
use Rattle.std.proofs.Common.{ℕ, ◌≡◌, ◌+◌, ◌-◌, ◌*◌, ◌%◌, ◌^◌, ◌<◌, ◌≤◌, suc, zero, List, [], ◌∷◌, Bool, true, false}
use Rattle.std.proofs.Common.{not, cond, eqb, length, get_or, take, drop, map, bit_and, replicate, Fits, w32, w64, refl}
use Rattle.std.proofs.Common.{sym, ap, ap₂, ◌∙◌, subst, arith}
use Rattle.std.specs.List.{zip, sum_by}
use Rattle.std.specs.Simd.Lanes.{chunk, fold_l, sum_l, sel_l, zip2, top}
use Rattle.std.proofs.lemmas.List.{take_all, take_rest, length-map}
use Rattle.std.proofs.lemmas.Nat.{one_shl}
use Rattle.std.proofs.lemmas.List.Sums.{sum_by_more, sum_by-take-drop}
use Rattle.std.proofs.lemmas.Simd.{tops_compared, sum-zip2, fold-sum, length-chunk}
use Rattle.cqf_lanes.specs.Kernels.{has_bit, masked_total}
use Rattle.cqf_lanes.proofs.Chunks.{sum_of_lanes, sum_of_vector, sum_short, sum_by-chunk}

-- what one index adds to the sum
abbrev pub masked_cost : ℕ → ℕ × ℕ → ℕ
masked_cost bit index = cond (has_bit index.1 bit) index.0 0

-- a choice, with its test negated
turned : (b : Bool) (cost : ℕ) → cond b 0 cost ≡ cond (not b) cost 0
turned true cost = refl
turned false cost = refl

-- the costs whose mask doesn't have the bit are left out
selected : (bit n : ℕ) (costs masks : List ℕ) → length costs ≡ n → length masks ≡ n →
    sel_l (zip2 eqb (zip2 bit_and masks (replicate n (2 ^ bit))) (replicate n 0)) (replicate n 0) costs ≡ map (masked_cost bit) (zip costs masks)
selected bit zero [] [] long wide = refl
selected bit zero [] (mask ∷ masks) long wide = absurd (omega arith)
selected bit zero (cost ∷ costs) masks long wide = absurd (omega arith)
selected bit (suc n) [] masks long wide = absurd (omega arith)
selected bit (suc n) (cost ∷ costs) [] long wide = absurd (omega arith)
selected bit (suc n) (cost ∷ costs) (mask ∷ masks) long wide =
    ap₂ (λ x xs. x ∷ xs) (turned (eqb (bit_and mask (2 ^ bit)) 0) cost) (selected bit n costs masks (omega arith) (omega arith))

-- the same for eight lanes, as vectors compute it
pub selected_lanes : (bit power : ℕ) (costs masks : List ℕ) → power ≡ 2 ^ bit → length costs ≡ 8 → length masks ≡ 8 →
    sel_l (map (top 63) (zip2 (λ a b. cond (eqb a b) (2 ^ 64 - 1) 0) (zip2 bit_and masks (replicate 8 power)) (replicate 8 0))) (replicate 8 0) costs
    ≡ map (masked_cost bit) (zip costs masks)
selected_lanes bit power costs masks is long wide =
    ap (λ ms. sel_l ms (replicate 8 0) costs) (tops_compared w64 eqb (zip2 bit_and masks (replicate 8 power)) (replicate 8 0))
    ∙ ap (λ p. sel_l (zip2 eqb (zip2 bit_and masks (replicate 8 p)) (replicate 8 0)) (replicate 8 0) costs) is
    ∙ selected bit 8 costs masks long wide

-- an index adds at most its cost
cost_le : (b : Bool) (cost : ℕ) → cond b cost 0 ≤ cost
cost_le true cost = omega arith
cost_le false cost = omega arith

-- and the sum is at most the sum of the costs
masked_sum_le : (bit : ℕ) (costs masks : List ℕ) → sum_l (map (masked_cost bit) (zip costs masks)) ≤ sum_l costs
masked_sum_le bit [] masks = omega arith
masked_sum_le bit (cost ∷ costs) [] = omega arith
masked_sum_le bit (cost ∷ costs) (mask ∷ masks) =
    let rest = masked_sum_le bit costs masks in
    let first : cond (has_bit mask bit) cost 0 ≤ cost = cost_le (has_bit mask bit) cost in
    omega arith

-- the sum of eight lanes is small
pub masked_small : (bit most : ℕ) (costs masks : List ℕ) → sum_l costs ≤ most → sum_l (map (masked_cost bit) (zip costs masks)) ≤ most
masked_small bit most costs masks small = omega (arith, masked_sum_le bit costs masks)

-- the first elements of two zipped lists
pub take-zip : (n : ℕ) (costs masks : List ℕ) → zip (take n costs) (take n masks) ≡ take n (zip costs masks)
take-zip zero costs masks = refl
take-zip (suc n) [] masks = refl
take-zip (suc n) (cost ∷ costs) [] = refl
take-zip (suc n) (cost ∷ costs) (mask ∷ masks) = ap (λ rest. (cost, mask) ∷ rest) (take-zip n costs masks)

-- a list zipped with the empty list
zip-none : (costs : List ℕ) → zip {K = ℕ} {X = ℕ} costs [] ≡ []
zip-none [] = refl
zip-none (cost ∷ costs) = refl

-- the remaining elements of two zipped lists
pub drop-zip : (n : ℕ) (costs masks : List ℕ) → zip (drop n costs) (drop n masks) ≡ drop n (zip costs masks)
drop-zip zero costs masks = refl
drop-zip (suc n) [] masks = refl
drop-zip (suc n) (cost ∷ costs) [] = zip-none (drop n costs)
drop-zip (suc n) (cost ∷ costs) (mask ∷ masks) = drop-zip n costs masks

-- the length of two zipped lists
length-zip : (costs masks : List ℕ) → length costs ≡ length masks → length (zip costs masks) ≡ length costs
length-zip [] masks long = refl
length-zip (cost ∷ costs) [] long = absurd (omega arith)
length-zip (cost ∷ costs) (mask ∷ masks) long = ap suc (length-zip costs masks (omega arith))

-- the element at an index of two zipped lists
get_or-zip : (index : ℕ) (costs masks : List ℕ) → length costs ≡ length masks → get_or (zip costs masks) index (0, 0)
    ≡ (get_or costs index 0, get_or masks index 0)
get_or-zip index [] [] long = refl
get_or-zip index [] (mask ∷ masks) long = absurd (omega arith)
get_or-zip index (cost ∷ costs) [] long = absurd (omega arith)
get_or-zip zero (cost ∷ costs) (mask ∷ masks) long = refl
get_or-zip (suc index) (cost ∷ costs) (mask ∷ masks) long = get_or-zip index costs masks (omega arith)

-- a chunk of two zipped lists
pub chunk-zip : (n done : ℕ) (costs masks : List ℕ) → zip (chunk done n costs) (chunk done n masks) ≡ chunk done n (zip costs masks)
chunk-zip n done costs masks = take-zip n (drop done costs) (drop done masks) ∙ ap (take n) (drop-zip done costs masks)

-- one more index adds its cost, or nothing
pub masked_more : (bit : ℕ) (costs masks : List ℕ) (index total after : ℕ) → length costs ≡ length masks → index < length costs → total
    ≡ sum_by (masked_cost bit) (take index (zip costs masks)) → after ≡ total + cond (has_bit (get_or masks index 0) bit) (get_or costs index 0) 0
    → after ≡ sum_by (masked_cost bit) (take (index + 1) (zip costs masks))
masked_more bit costs masks index total after long inside so_far more =
    let here : get_or (zip costs masks) index (0, 0) ≡ (get_or costs index 0, get_or masks index 0) = get_or-zip index costs masks long in
    let step = sum_by_more (masked_cost bit) (zip costs masks) index (0, 0) (omega (arith, length-zip costs masks long)) in
    more ∙ ap (λ n. n + cond (has_bit (get_or masks index 0) bit) (get_or costs index 0) 0) so_far
    ∙ sym (step ∙ ap (λ x. sum_by (masked_cost bit) (take index (zip costs masks)) + masked_cost bit x) here)

-- all indices
pub masked_all : (bit : ℕ) (costs masks : List ℕ) (index total : ℕ) → length costs ≡ length masks → length costs ≤ index → total
    ≡ sum_by (masked_cost bit) (take index (zip costs masks)) → total ≡ masked_total bit costs masks
masked_all bit costs masks index total long past so_far =
    so_far ∙ ap (sum_by (masked_cost bit)) (take_all index (zip costs masks) (omega (arith, length-zip costs masks long)))

-- the length of a chunk's terms
pub length-masked_chunk : (bit n done : ℕ) (costs masks : List ℕ) → length costs ≡ length masks → done + n ≤ length costs →
    length (map (masked_cost bit) (zip (chunk done n costs) (chunk done n masks))) ≡ n
length-masked_chunk bit n done costs masks long inside =
    length-map (zip (chunk done n costs) (chunk done n masks)) (masked_cost bit)
    ∙ length-zip (chunk done n costs) (chunk done n masks) (length-chunk done n costs inside ∙ sym (length-chunk done n masks (omega arith)))
    ∙ length-chunk done n costs inside

-- eight more indices, summed lane by lane
pub masked_eight_more : (bit : ℕ) (costs masks lanes more : List ℕ) (done : ℕ) → length lanes ≡ length more → more
    ≡ map (masked_cost bit) (zip (chunk done 8 costs) (chunk done 8 masks)) → sum_l lanes ≡ sum_by (masked_cost bit) (take done (zip costs masks))
    → sum_l (zip2 (λ a b. a + b) lanes more) ≡ sum_by (masked_cost bit) (take (done + 8) (zip costs masks))
masked_eight_more bit costs masks lanes more done long is so_far =
    let added : sum_l more ≡ sum_by (masked_cost bit) (chunk done 8 (zip costs masks)) =
    ap sum_l (is ∙ ap (map (masked_cost bit)) (chunk-zip 8 done costs masks)) ∙ sum_of_lanes (masked_cost bit) (chunk done 8 (zip costs masks)) in
    sum-zip2 lanes more long ∙ ap₂ (λ m n. m + n) so_far added ∙ sym (sum_by-chunk (masked_cost bit) (zip costs masks) done 8)

-- the sum of the part before an index and that of the rest add up to the whole sum
pub masked_rest : (bit : ℕ) (costs masks : List ℕ) (done front rest : ℕ) → front ≡ sum_by (masked_cost bit) (take done (zip costs masks)) →
    rest ≡ masked_total bit (drop done costs) (drop done masks) → front + rest ≡ masked_total bit costs masks
masked_rest bit costs masks done front rest before following =
    ap₂ (λ m n. m + n) before (following ∙ ap (sum_by (masked_cost bit)) (drop-zip done costs masks)) ∙ sum_by-take-drop (masked_cost bit) (zip costs masks) done

-- the sum of the lanes and of what remains after the last full vector
pub masked_of_all : (bit : ℕ) (costs masks lanes : List ℕ) (done rest : ℕ) → sum_l lanes ≡ sum_by (masked_cost bit) (take done (zip costs masks))
    → rest ≡ masked_total bit (take (length costs - done) (drop done costs)) (take (length masks - done) (drop done masks)) →
    fold_l (λ a b. a + b) 0 lanes + rest ≡ masked_total bit costs masks
masked_of_all bit costs masks lanes done rest before following =
    let folded : fold_l (λ a b. a + b) 0 lanes ≡ sum_by (masked_cost bit) (take done (zip costs masks)) = fold-sum 0 lanes ∙ omega (arith, before) in
    masked_rest bit costs masks done _ rest folded (following ∙ ap₂ (masked_total bit) (take_rest costs done) (take_rest masks done))

-- that sum fits 64 bits
pub masked_of_all_fits : (bit : ℕ) (costs masks lanes : List ℕ) (done rest : ℕ) → length costs < 2 ^ 32 → ((k : ℕ) → Fits w32 (get_or costs k 0))
    → sum_l lanes ≡ sum_by (masked_cost bit) (take done (zip costs masks)) → rest
    ≡ masked_total bit (take (length costs - done) (drop done costs)) (take (length masks - done) (drop done masks)) →
    Fits w64 (fold_l (λ a b. a + b) 0 lanes + rest)
masked_of_all_fits bit costs masks lanes done rest few fits before following =
    let whole = masked_of_all bit costs masks lanes done rest before following in
    let lanes_of_all = sum_of_lanes (masked_cost bit) (zip costs masks) in
    record { fits = omega (arith, whole, lanes_of_all, masked_sum_le bit costs masks, sum_of_vector costs, sum_short costs fits) }

module _ (bit index : ℕ) (costs masks loaded : List ℕ) (low : bit < 64) (inside : index + 8 ≤ length costs) (long : length costs ≡ length masks)
    (is : loaded ≡ chunk index 8 costs) where
  -- eight lanes of costs, with 0 for each whose mask doesn't have the bit
  abbrev pub selection : List ℕ
  selection = sel_l (map (top 63) (zip2 (λ a b. cond (eqb a b) (2 ^ 64 - 1) 0) (zip2 bit_and (chunk index 8 masks) (replicate 8 (1 * 2 ^ bit % 2 ^ 64)))
      (replicate 8 0))) (replicate 8 0) loaded

  -- they are the terms of the eight indices
  pub selected_in : selection ≡ map (masked_cost bit) (zip (chunk index 8 costs) (chunk index 8 masks))
  selected_in =
      selected_lanes bit (1 * 2 ^ bit % 2 ^ 64) loaded (chunk index 8 masks) (one_shl bit 64 low) (ap length is ∙ length-chunk index 8 costs inside)
      (length-chunk index 8 masks (omega arith))
      ∙ ap (λ xs. map (masked_cost bit) (zip xs (chunk index 8 masks))) is

  -- and their sum is at most that of eight costs
  pub selected_small : sum_l loaded ≤ 8 * (2 ^ 32 - 1) → sum_l selection ≤ 8 * (2 ^ 32 - 1)
  selected_small small = subst (λ xs. sum_l xs ≤ 8 * (2 ^ 32 - 1)) (sym selected_in)
      (masked_small bit (8 * (2 ^ 32 - 1)) (chunk index 8 costs) (chunk index 8 masks) (subst (λ xs. sum_l xs ≤ 8 * (2 ^ 32 - 1)) is small))
