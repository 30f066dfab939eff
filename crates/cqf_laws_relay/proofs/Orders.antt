-- Mapping and filtering a list in another order.
use Rattle.std.proofs.Common.{◌≡◌, ℕ, zero, suc, ◌<◌, Bool, true, false, cond, List, length, get_or, set, swap, map, filter, refl, sym, ap, ap₂, ◌∙◌, arith}
use Rattle.std.specs.Prelude.{[], ◌∷◌}
use Rattle.std.specs.List.Sorted.{IsNonDecreasingBy, IsPermutation}
use Rattle.std.proofs.lemmas.List.{length-map, map-set}
use Rattle.std.proofs.lemmas.List.Sorted.{IsPermutation-cons, IsPermutation-keeps, IsPermutation-refl, IsPermutation-swap, IsPermutation-trans}
use Rattle.std.proofs.Math.ListN.{get_or-map}

-- a map of a list with two elements swapped
map_swapped : {X Y : Type 0} (f : X → Y) (xs : List X) (i j : ℕ) → map f (swap xs i j) ≡ swap (map f xs) i j
map_swapped f [] i j = refl
map_swapped {X} {Y} f (x ∷ xs) i j =
    let all = x ∷ xs in
    let one = set all i (get_or all j x) in
    map-set f one j (get_or all i x)
    ∙ ap (λ (ys : List Y). set ys j (f (get_or all i x))) (map-set f all i (get_or all j x))
    ∙ ap₂ (λ (a b : Y). set (set (map f all) i a) j b) (sym (get_or-map f all j x)) (sym (get_or-map f all i x))

-- the order of a map is the map of an order
pub lifted : {X Y : Type 0} (f : X → Y) (xs : List X) (ys : List Y) → IsPermutation (map f xs) ys →
    (zs : List X) × IsPermutation xs zs × (map f zs ≡ ys)
lifted {X} {Y} f xs =
    IsPermutation-keeps (map f xs) (λ (ys : List Y). (zs : List X) × IsPermutation xs zs × (map f zs ≡ ys)) (xs, IsPermutation-refl xs, refl)
    (λ ys i j p q w. (
      swap w.0 i j,
      IsPermutation-trans xs w.0 (swap w.0 i j) w.1
          (IsPermutation-swap w.0 (swap w.0 i j) i j (omega (arith, p, length-map w.0 f, ap length w.2)) (omega (arith, q, length-map w.0 f, ap length w.2)) refl),
      map_swapped f w.0 i j ∙ ap (λ (l : List Y). swap l i j) w.2,
    ))

-- a map in order of a key is of a list in order of the key of the image
pub rises_before : {X Y : Type 0} (key : Y → ℕ) (f : X → Y) (xs : List X) → IsNonDecreasingBy key (map f xs) → IsNonDecreasingBy (λ (x : X). key (f x)) xs
rises_before key f xs rise i j d le inside =
    let there : j < length (map f xs) = omega (arith, inside, length-map xs f) in
    omega (arith, rise i j (f d) le there, ap key (get_or-map f xs i d), ap key (get_or-map f xs j d))

module _ {X : Type 0} (p : X → Bool) where
  -- a test keeps the same of two lists, in any order
  abbrev KeepsSame : List X → List X → Type 0
  KeepsSame xs ys = IsPermutation (filter p xs) (filter p ys)

  -- after the same element
  after_one : (x : X) (xs ys : List X) → KeepsSame xs ys → KeepsSame (x ∷ xs) (x ∷ ys)
  after_one x xs ys same = by_test (p x)
    where
      by_test : (b : Bool) → IsPermutation (cond b (x ∷ filter p xs) (filter p xs)) (cond b (x ∷ filter p ys) (filter p ys))
      by_test true = IsPermutation-cons x (filter p xs) (filter p ys) same
      by_test false = same

  -- if the first two elements are swapped
  turned : (x y : X) (xs : List X) → KeepsSame (x ∷ y ∷ xs) (y ∷ x ∷ xs)
  turned x y xs = by_tests (p x) (p y)
    where
      rest : List X
      rest = filter p xs

      by_tests : (a b : Bool) →
          IsPermutation (cond a (x ∷ cond b (y ∷ rest) rest) (cond b (y ∷ rest) rest)) (cond b (y ∷ cond a (x ∷ rest) rest) (cond a (x ∷ rest) rest))
      by_tests true true = IsPermutation-swap (x ∷ y ∷ rest) (y ∷ x ∷ rest) 0 1 (omega arith) (omega arith) refl
      by_tests true false = IsPermutation-refl (x ∷ rest)
      by_tests false true = IsPermutation-refl (y ∷ rest)
      by_tests false false = IsPermutation-refl rest

  -- one after the other
  after : (xs ys zs : List X) → KeepsSame xs ys → KeepsSame ys zs → KeepsSame xs zs
  after xs ys zs = IsPermutation-trans (filter p xs) (filter p ys) (filter p zs)

  -- if the first and a later element are swapped
  head_swapped : (xs : List X) (j : ℕ) (x d : X) → j < length xs → KeepsSame (x ∷ xs) (get_or xs j d ∷ set xs j x)
  head_swapped [] j x d inside = absurd (omega (arith, inside))
  head_swapped (y ∷ xs) zero x d inside = turned x y xs
  head_swapped (y ∷ xs) (suc j) x d inside =
      let z = get_or xs j d in
      let others = set xs j x in
      after (x ∷ y ∷ xs) (y ∷ x ∷ xs) (z ∷ y ∷ others) (turned x y xs)
      (after (y ∷ x ∷ xs) (y ∷ z ∷ others) (z ∷ y ∷ others)
      (after_one y (x ∷ xs) (z ∷ others) (head_swapped xs j x d (omega (arith, inside))))
      (turned y z others))

  -- if any two are
  both_set : (xs : List X) (i j : ℕ) (d : X) → i < length xs → j < length xs → KeepsSame xs (set (set xs i (get_or xs j d)) j (get_or xs i d))
  both_set [] i j d a b = absurd (omega (arith, a))
  both_set (x ∷ xs) zero zero d a b = IsPermutation-refl (filter p (x ∷ xs))
  both_set (x ∷ xs) zero (suc j) d a b = head_swapped xs j x d (omega (arith, b))
  both_set (x ∷ xs) (suc i) zero d a b = head_swapped xs i x d (omega (arith, a))
  both_set (x ∷ xs) (suc i) (suc j) d a b =
      after_one x xs (set (set xs i (get_or xs j d)) j (get_or xs i d)) (both_set xs i j d (omega (arith, a)) (omega (arith, b)))

  swapped : (xs : List X) (i j : ℕ) → i < length xs → j < length xs → KeepsSame xs (swap xs i j)
  swapped [] i j a b = absurd (omega (arith, a))
  swapped (x ∷ xs) i j a b = both_set (x ∷ xs) i j x a b

  -- and so for a list in another order
  pub kept_in_order : (xs ys : List X) → IsPermutation xs ys → IsPermutation (filter p xs) (filter p ys)
  kept_in_order xs =
      IsPermutation-keeps xs (KeepsSame xs) (IsPermutation-refl (filter p xs)) (λ ys i j a b same. after xs ys (swap ys i j) same (swapped ys i j a b))
