-- The partial results of a parallel sum over the octets of a link.
use Rattle.std.proofs.Common.{◌≡◌, ℕ, ◌*◌, ◌^◌, ◌<◌, ◌≤◌, ◌∷◌, [], List, length, map, sum, refl, sym, ap, ◌∙◌, arith}
use Rattle.std.specs.Borrow.{Bor}
use Rattle.std.specs.List.{AllZip}
use Rattle.std.proofs.lemmas.List.{length-map}
use Rattle.std.proofs.lemmas.List.Sums.{sum_by-cons}

-- the sum of numbers that are read through references
shown_sum : (zs : List (Bor ℕ)) (ys : List ℕ) → AllZip (λ z y. (y ≡ z.now) × (y < 2 ^ 32)) zs ys → sum ys ≡ sum (map (λ (z : Bor ℕ). z.now) zs)
shown_sum [] [] each = refl
shown_sum [] (y ∷ ys) each = absurd each
shown_sum (z ∷ zs) [] each = absurd each
shown_sum (z ∷ zs) (y ∷ ys) each =
    let rest : sum ys ≡ sum (map (λ (z : Bor ℕ). z.now) zs) = shown_sum zs ys each.1 in
    omega (
      arith,
      sum_by-cons (λ (n : ℕ). n) y ys,
      each.0.0,
      rest,
      sum_by-cons (λ (n : ℕ). n) z.now (map (λ (z : Bor ℕ). z.now) zs),
    )

-- their sum is within the bound for that many 32-bit numbers
shown_few : (zs : List (Bor ℕ)) (ys : List ℕ) → AllZip (λ z y. (y ≡ z.now) × (y < 2 ^ 32)) zs ys → sum ys ≤ length zs * 2 ^ 32
shown_few [] [] each = omega arith
shown_few [] (y ∷ ys) each = absurd each
shown_few (z ∷ zs) [] each = absurd each
shown_few (z ∷ zs) (y ∷ ys) each = omega (arith, sum_by-cons (λ (n : ℕ). n) y ys, each.0.1, shown_few zs ys each.1)

module _ (piece : List ℕ) (zs : List (Bor ℕ)) (ys : List ℕ) (shown : map (λ (z : Bor ℕ). z.now) zs ≡ piece)
    (each : AllZip (λ z y. (y ≡ z.now) × (y < 2 ^ 32)) zs ys) where
  -- the numbers of a piece are summed
  pub piece_summed : sum ys ≡ sum piece
  piece_summed = shown_sum zs ys each ∙ ap sum shown

  -- their sum fits if there are not too many
  pub piece_fits : length piece ≤ 1048576 → sum ys < 2 ^ 64
  piece_fits few =
      let long : length zs ≡ length piece = sym (length-map zs (λ (z : Bor ℕ). z.now)) ∙ ap length shown in
      omega (arith, shown_few zs ys each, long, few)
