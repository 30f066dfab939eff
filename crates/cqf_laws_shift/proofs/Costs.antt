-- What frames take of the wire, and what a reservation costs.
use Rattle.std.proofs.Common.{◌≡◌, ℕ, ◌+◌, ◌-◌, ◌*◌, ◌/◌, ◌≤◌, ◌<◌, ◌∷◌, [], List, Bool, true, false, arith, ap, All, sum_by, if◌then◌else◌}
use Rattle.std.proofs.Common.{mul-le-mul_left}
use Rattle.std.proofs.lemmas.List.Elements.{All-head, All-tail}
use Rattle.std.proofs.lemmas.List.Sums.{sum_by-cons}
use Rattle.std.proofs.lemmas.Nat.{le-div}
use Rattle.cqf_units.specs.Timing.{counted_of, cost_of, wire_of}
use Rattle.cqf_laws_shift.specs.Cost.{WireWithinCost}

module _ {X : Type 0} (overhead : ℕ) (short : overhead ≤ 22) (test : X → Bool) (octets : X → ℕ) where
  -- of the frames that pass a test: the octets that a gate counts, their number, and the octets that they take on the wire
  abbrev sum_counted : List X → ℕ
  sum_counted xs = sum_by (λ x. if test x then counted_of overhead (octets x) else 0) xs

  abbrev number : List X → ℕ
  number xs = sum_by (λ x. if test x then 1 else 0) xs

  abbrev wire : List X → ℕ
  wire xs = sum_by (λ x. if test x then wire_of (octets x) else 0) xs

  -- each frame takes on the wire the octets that are counted of it, the overhead, and 20 octets more
  counted : (xs : List X) → All (λ x. 64 ≤ octets x) xs → wire xs ≡ sum_counted xs + (overhead + 20) * number xs
  counted [] least = omega arith
  counted (x ∷ xs) least =
      omega (
        arith,
        sum_by-cons (λ x. if test x then wire_of (octets x) else 0) x xs,
        sum_by-cons (λ x. if test x then counted_of overhead (octets x) else 0) x xs,
        more (number (x ∷ xs)) (number xs) (if test x then 1 else 0) (sum_by-cons (λ x. if test x then 1 else 0) x xs),
        counted xs (All-tail (λ x. 64 ≤ octets x) x xs least),
        one (test x) (octets x) (All-head (λ x. 64 ≤ octets x) x xs least),
      )
    where
      one : (b : Bool) (n : ℕ) → 64 ≤ n →
          (if b then wire_of n else 0) ≡ (if b then counted_of overhead n else 0) + (overhead + 20) * (if b then 1 else 0)
      one true n h = omega (arith, short, h)
      one false n h = omega arith

      more : (all rest first : ℕ) → all ≡ first + rest → (overhead + 20) * all ≡ (overhead + 20) * first + (overhead + 20) * rest
      more all rest first is = omega (arith, ap (λ z. (overhead + 20) * z) is)

  -- and if no frame is shorter than 64 octets, the gate counts of each at least what it counts of 64 octets
  enough : (xs : List X) → All (λ x. 64 ≤ octets x) xs → (64 - overhead) * number xs ≤ sum_counted xs
  enough [] least = omega arith
  enough (x ∷ xs) least =
      omega (
        arith,
        sum_by-cons (λ x. if test x then counted_of overhead (octets x) else 0) x xs,
        more (number (x ∷ xs)) (number xs) (if test x then 1 else 0) (sum_by-cons (λ x. if test x then 1 else 0) x xs),
        enough xs (All-tail (λ x. 64 ≤ octets x) x xs least),
        one (test x) (octets x) (All-head (λ x. 64 ≤ octets x) x xs least),
      )
    where
      one : (b : Bool) (n : ℕ) → 64 ≤ n → (64 - overhead) * (if b then 1 else 0) ≤ (if b then counted_of overhead n else 0)
      one true n h = omega (arith, h)
      one false n h = omega arith

      more : (all rest first : ℕ) → all ≡ first + rest → (64 - overhead) * all ≡ (64 - overhead) * first + (64 - overhead) * rest
      more all rest first is = omega (arith, ap (λ z. (64 - overhead) * z) is)

  -- frames whose counted octets are within a reservation take no more of the wire than its cost
  pub tested_wire_within_cost : (xs : List X) (reserved : ℕ) → All (λ x. 64 ≤ octets x) xs → sum_counted xs ≤ reserved → wire xs ≤ cost_of overhead reserved
  tested_wire_within_cost xs reserved least fits =
      let few : number xs ≤ reserved / (64 - overhead) = le-div (number xs) reserved (64 - overhead) (omega (arith, short)) (within (enough xs least) fits) in
      let more : (overhead + 20) * number xs ≤ (overhead + 20) * (reserved / (64 - overhead)) = mul-le-mul_left (overhead + 20) few in
      omega (arith, counted xs least, more, fits)
    where
      within : (64 - overhead) * number xs ≤ sum_counted xs → sum_counted xs ≤ reserved → number xs * (64 - overhead) ≤ reserved
      within a b = omega (arith, a, b)

-- the law, for a list of frames
pub wire_within_cost : WireWithinCost
wire_within_cost overhead frames reserved short least fits = tested_wire_within_cost overhead short (λ x. true) (λ x. x) frames reserved least fits
