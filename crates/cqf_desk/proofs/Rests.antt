-- The entries after an opening part, one by one.
use Rattle.std.proofs.Common.{◌≡◌, ℕ, ◌+◌, ◌<◌, List, Some, [], ◌∷◌, ◌++◌, map, length, take, drop, get_or, refl, ap, sym, ◌∙◌, arith}
use Rattle.std.specs.Prelude.{slice_get, suc, zero}
use Rattle.std.proofs.lemmas.List.{map-append, take_more}
use Rattle.std.proofs.lemmas.Option.{same_Some, slice_get-get_or}

-- an element that is read from a list is in the list at this index
pub is_at : {X : Type 0} (xs : List X) (k : ℕ) (x : X) → k < length xs → x ≡ get_or xs k x → slice_get xs k ≡ Some x
is_at xs k x inside is = slice_get-get_or xs k x inside ∙ ap Some (sym is)

-- one more element
pub one_more : {X Y : Type 0} (f : X → Y) (xs : List X) (k : ℕ) (x : X) → k < length xs → x ≡ get_or xs k x → map f (take (k + 1) xs)
    ≡ map f (take k xs) ++ f x ∷ []
one_more f xs k x inside is =
    ap (map f) (take_more xs k x inside ∙ ap (λ y. take k xs ++ y ∷ []) (sym is)) ∙ map-append f (take k xs) (x ∷ [])

-- an index after a first part
pub following : {X : Type 0} (front rest : List X) (k : ℕ) → slice_get (front ++ rest) (length front + k) ≡ slice_get rest k
following [] rest k =
    let at : 0 + k ≡ k = omega arith in
    ap (slice_get rest) at
following (x ∷ front) rest k =
    let at : suc (length front) + k ≡ suc (length front + k) = omega arith in
    ap (slice_get (x ∷ (front ++ rest))) at ∙ following front rest k

-- the elements before such an index
pub before : {X : Type 0} (front rest : List X) (k : ℕ) → take (length front + k) (front ++ rest) ≡ front ++ take k rest
before [] rest k =
    let at : 0 + k ≡ k = omega arith in
    ap (λ (n : ℕ). take n rest) at
before (x ∷ front) rest k =
    let at : suc (length front) + k ≡ suc (length front + k) = omega arith in
    ap (λ (n : ℕ). take n (x ∷ (front ++ rest))) at ∙ (λ i. x ∷ before front rest k i)

-- the first part of a list in two parts
pub front_is : {X : Type 0} (front rest : List X) → take (length front) (front ++ rest) ≡ front
front_is [] rest = refl
front_is (x ∷ front) rest = (λ i. x ∷ front_is front rest i)

-- the second part of a list in two parts
pub rest_is : {X : Type 0} (front rest : List X) → drop (length front) (front ++ rest) ≡ rest
rest_is [] rest = refl
rest_is (x ∷ front) rest = rest_is front rest

-- mapping and taking the first elements commute
pub take-map : {X Y : Type 0} (f : X → Y) (xs : List X) (k : ℕ) → take k (map f xs) ≡ map f (take k xs)
take-map f xs zero = refl
take-map f [] (suc k) = refl
take-map f (x ∷ xs) (suc k) = (λ i. f x ∷ take-map f xs k i)

-- a list up to an index, the element there, and what comes after it
pub parts_at : {X : Type 0} (xs : List X) (k : ℕ) (x : X) → slice_get xs k ≡ Some x → (more : List X) × (xs ≡ take k xs ++ x ∷ more)
parts_at [] k x h = absurd cc
parts_at (y ∷ xs) zero x h = (xs, λ i. same_Some y x h i ∷ xs)
parts_at (y ∷ xs) (suc k) x h =
    let parts = parts_at xs k x h in
    (parts.0, λ i. y ∷ parts.1 i)
