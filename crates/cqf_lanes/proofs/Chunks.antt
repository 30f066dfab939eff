-- Vectors loaded from a list, and sums of their lanes.
use Rattle.std.proofs.Common.{ℕ, ◌≡◌, ◌+◌, ◌-◌, ◌*◌, ◌^◌, ◌<◌, ◌≤◌, List, [], ◌∷◌, length, take, drop, map, get_or}
use Rattle.std.proofs.Common.{Fits, w32, w64, sum, refl, sym, ap, ap₂, ◌∙◌, arith}
use Rattle.std.specs.List.{sum_by}
use Rattle.std.specs.Simd.Lanes.{chunk, fold_l, sum_l, zip2}
use Rattle.std.proofs.lemmas.List.Sums.{sum_by-cons, sum_by-append, sum_by-le, sum_by-take-drop}
use Rattle.std.proofs.lemmas.List.{take_rest}
use Rattle.std.proofs.lemmas.List.Elements.{All-from_get_or}
use Rattle.std.proofs.lemmas.Simd.{sum-zip2, fold-sum, sum_bound, length-chunk, chunk-fits, below_from_Fits, Each1-weaker}
use Rattle.std.proofs.Math.Seq.{take-add}

-- the sum of lanes that were computed one by one
pub sum_of_lanes : {X : Type 0} (f : X → ℕ) (xs : List X) → sum_l (map f xs) ≡ sum_by f xs
sum_of_lanes f [] = refl
sum_of_lanes f (x ∷ xs) = ap (λ n. f x + n) (sum_of_lanes f xs) ∙ sym (sum_by-cons f x xs)

-- the sum of the lanes of a vector
pub sum_of_vector : (xs : List ℕ) → sum_l xs ≡ sum_by (λ x. x) xs
sum_of_vector [] = refl
sum_of_vector (x ∷ xs) = ap (λ n. x + n) (sum_of_vector xs) ∙ sym (sum_by-cons (λ y. y) x xs)

-- the next n elements of a list add their terms
pub sum_by-chunk : {X : Type 0} (f : X → ℕ) (xs : List X) (done n : ℕ) → sum_by f (take (done + n) xs) ≡ sum_by f (take done xs) + sum_by f (chunk done n xs)
sum_by-chunk f xs done n = ap (sum_by f) (take-add done n xs) ∙ sum_by-append f (take done xs) (chunk done n xs)

-- the sum of eight numbers of 32 bits is small
pub chunk_small : (values : List ℕ) (index : ℕ) → index + 8 ≤ length values → ((k : ℕ) → Fits w32 (get_or values k 0)) →
    sum_l (chunk index 8 values) ≤ 8 * (2 ^ 32 - 1)
chunk_small values index inside fits =
    let lanes = below_from_Fits w32 (chunk index 8 values) (chunk-fits w32 index 8 values fits) in
    let bound = sum_bound (2 ^ 32 - 1) (chunk index 8 values) (Each1-weaker (λ x. x < 2 ^ 32) (λ x. x ≤ 2 ^ 32 - 1) (λ a small. omega arith)
    (chunk index 8 values) lanes) in
    omega (arith, bound, length-chunk index 8 values inside)

-- eight more values, summed lane by lane
pub sum_eight_more : (values lanes more : List ℕ) (done : ℕ) → length lanes ≡ length more → more ≡ chunk done 8 values → sum_l lanes
    ≡ sum (take done values) → sum_l (zip2 (λ a b. a + b) lanes more) ≡ sum (take (done + 8) values)
sum_eight_more values lanes more done long is so_far =
    sum-zip2 lanes more long ∙ ap₂ (λ m n. m + n) so_far (ap sum_l is ∙ sum_of_vector (chunk done 8 values)) ∙ sym (sum_by-chunk (λ x. x) values done 8)

-- the sum of the part before an index and that of the rest add up to the whole sum
pub sum_rest : (values : List ℕ) (done front rest : ℕ) → front ≡ sum (take done values) → rest ≡ sum (drop done values) → front + rest ≡ sum values
sum_rest values done front rest before following = ap₂ (λ m n. m + n) before following ∙ sum_by-take-drop (λ x. x) values done

-- an upper bound of a sum of numbers of 32 bits
pub sum_short : (values : List ℕ) → ((k : ℕ) → Fits w32 (get_or values k 0)) → sum values ≤ length values * (2 ^ 32 - 1)
sum_short values fits = sum_by-le (λ x. x) (2 ^ 32 - 1) values (All-from_get_or (λ x. x ≤ 2 ^ 32 - 1) values 0 (λ k inside. let small =
    (fits k).fits in omega arith))

-- the sum of the lanes and of what remains after the last full vector
pub sum_of_all : (values lanes : List ℕ) (done rest : ℕ) → sum_l lanes ≡ sum (take done values) → rest
    ≡ sum (take (length values - done) (drop done values)) → fold_l (λ a b. a + b) 0 lanes + rest ≡ sum values
sum_of_all values lanes done rest before following =
    let folded : fold_l (λ a b. a + b) 0 lanes ≡ sum (take done values) = fold-sum 0 lanes ∙ omega (arith, before) in
    sum_rest values done _ rest folded (following ∙ ap sum (take_rest values done))

-- that sum fits 64 bits
pub sum_of_all_fits : (values lanes : List ℕ) (done rest : ℕ) → length values < 2 ^ 32 → ((k : ℕ) → Fits w32 (get_or values k 0)) →
    sum_l lanes ≡ sum (take done values) → rest ≡ sum (take (length values - done) (drop done values)) → Fits w64 (fold_l (λ a b. a + b) 0 lanes + rest)
sum_of_all_fits values lanes done rest few fits before following =
    record { fits = omega (arith, sum_of_all values lanes done rest before following, sum_short values fits) }
