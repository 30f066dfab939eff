-- Elements of a list by their indices.
use Rattle.std.proofs.Common.{◌≡◌, ◌∙◌, ℕ, ◌+◌, ◌-◌, ◌<◌, ◌⊎◌, List, Some, None, length, refl, ap, sym, subst, inl, inr, arith}
use Rattle.std.proofs.Common.{get_or-append-add, length-append}
use Rattle.std.specs.List.{enumerate_from}
use Rattle.std.specs.Prelude.{[], ◌∷◌, ◌++◌, Contains, slice_get, slice_index_or, take, zero, suc}
use Rattle.std.proofs.lemmas.Bool.{cases_lt}
use Rattle.std.proofs.lemmas.List.Elements.{Contains-get_or}

-- only the empty list has no first element
pub nil_from_none : {X : Type 0} (xs : List X) → slice_get xs 0 ≡ None → xs ≡ []
nil_from_none [] e = refl
nil_from_none (x ∷ xs) e = absurd cc

-- the first element remains the first after appending
pub first_stays : {X : Type 0} (xs ys : List X) (x : X) → slice_get xs 0 ≡ Some x → slice_get (xs ++ ys) 0 ≡ Some x
first_stays [] ys x e = absurd cc
first_stays (z ∷ xs) ys x e = e

-- an element of the first list has the same index in the concatenation
pub slice_get_front : {X : Type 0} (xs ys : List X) (k : ℕ) → k < length xs → slice_get (xs ++ ys) k ≡ slice_get xs k
slice_get_front [] ys k h = absurd (omega (arith, h))
slice_get_front (x ∷ xs) ys zero h = refl
slice_get_front (x ∷ xs) ys (suc k) h = slice_get_front xs ys k (omega (arith, h))

-- the first element after the first list
pub slice_get_after : {X : Type 0} (xs : List X) (y : X) (ys : List X) (k : ℕ) → k ≡ length xs → slice_get (xs ++ y ∷ ys) k ≡ Some y
slice_get_after [] y ys zero e = refl
slice_get_after [] y ys (suc k) e = absurd (omega (arith, e))
slice_get_after (x ∷ xs) y ys zero e = absurd (omega (arith, e))
slice_get_after (x ∷ xs) y ys (suc k) e = slice_get_after xs y ys k (omega (arith, e))

-- an element of a front has the same index in the list
pub slice_get-take : {X : Type 0} (xs : List X) (n k : ℕ) → k < n → slice_get (take n xs) k ≡ slice_get xs k
slice_get-take xs zero k h = absurd (omega (arith, h))
slice_get-take [] (suc n) k h = refl
slice_get-take (x ∷ xs) (suc n) zero h = refl
slice_get-take (x ∷ xs) (suc n) (suc k) h = slice_get-take xs n k (omega (arith, h))

-- an element of a concatenation is one of the first list, or of the second
pub slice_get_parts : {X : Type 0} (xs ys : List X) (i : ℕ) (x : X) → slice_get (xs ++ ys) i ≡ Some x →
    (slice_get xs i ≡ Some x) ⊎ ((k : ℕ) × (i ≡ length xs + k) × (slice_get ys k ≡ Some x))
slice_get_parts [] ys i x e = inr (i, omega arith, e)
slice_get_parts (z ∷ xs) ys zero x e = inl e
slice_get_parts (z ∷ xs) ys (suc i) x e =
    elim (slice_get_parts xs ys i x e) [ inl a ↦ inl a | inr b ↦ inr (b.0, omega (arith, b.1), b.2) ]

-- an index into a concatenation is inside the first list, or its element is of the second
pub in_either : {X : Type 0} (xs ys : List X) (p : ℕ) (d : X) → p < length (xs ++ ys) → (p < length xs) ⊎ Contains ys (slice_index_or (xs ++ ys) p d)
in_either {X} xs ys p d l =
    elim (cases_lt p (length xs)) [
      | inl k ↦ inl k
      | inr g ↦
          let k = p - length xs in
          let at : p ≡ length xs + k = omega (arith, g) in
          let inside : k < length ys = omega (arith, l, g, length-append xs ys) in
          let e : slice_index_or (xs ++ ys) p d ≡ slice_index_or ys k d =
          ap (λ (i : ℕ). slice_index_or (xs ++ ys) i d) at ∙ get_or-append-add xs ys k d in
          inr (subst (λ (x : X). Contains ys x) (sym e) (Contains-get_or ys k d inside))
    ]

-- an appended element's number is the number of elements before it, plus the start
pub enumerate_from-push : {X : Type 0} (n : ℕ) (xs : List X) (x : X) → enumerate_from n (xs ++ x ∷ []) ≡ enumerate_from n xs ++ (n + length xs, x) ∷ []
enumerate_from-push n [] x = let e : n ≡ n + 0 = omega arith in ap (λ k. (k, x) ∷ []) e
enumerate_from-push n (y ∷ xs) x =
    let e : (n + 1) + length xs ≡ n + length (y ∷ xs) = omega arith in
    ap (λ zs. (n, y) ∷ zs) (enumerate_from-push (n + 1) xs x ∙ ap (λ k. enumerate_from (n + 1) xs ++ (k, x) ∷ []) e)
