-- Lists with one element replaced.
use Rattle.std.proofs.Common.{◌≡◌, ◌≢◌, ◌∙◌, ℕ, zero, suc, ◌<◌, List, [], ◌∷◌, Some, length, map, set, refl, sym, ap, arith}
use Rattle.std.specs.Prelude.{slice_get}
use Rattle.std.proofs.lemmas.Option.{same_Some}

-- an element at another index is unchanged
pub slice_get-set_other : {A : Type 0} (xs : List A) (i j : ℕ) (x : A) → j ≢ i → slice_get (set xs i x) j ≡ slice_get xs j
slice_get-set_other [] i j x apart = refl
slice_get-set_other (y ∷ xs) zero zero x apart = absurd (apart refl)
slice_get-set_other (y ∷ xs) zero (suc j) x apart = refl
slice_get-set_other (y ∷ xs) (suc i) zero x apart = refl
slice_get-set_other (y ∷ xs) (suc i) (suc j) x apart = slice_get-set_other xs i j x (λ same. apart (ap (λ (n : ℕ). suc n) same))

-- the element at the index itself is the new one
pub slice_get-set_same : {A : Type 0} (xs : List A) (i : ℕ) (x : A) → i < length xs → slice_get (set xs i x) i ≡ Some x
slice_get-set_same [] i x inside = absurd (omega (arith, inside))
slice_get-set_same (y ∷ xs) zero x inside = refl
slice_get-set_same (y ∷ xs) (suc i) x inside = slice_get-set_same xs i x (omega (arith, inside))

-- the mapped list is unchanged if the new element has the same image
pub map_kept : {X Y : Type 0} (f : X → Y) (xs : List X) (k : ℕ) (old new : X) → slice_get xs k ≡ Some old → f new ≡ f old → map f (set xs k new) ≡ map f xs
map_kept f [] k old new is same = refl
map_kept {X} {Y} f (x ∷ xs) zero old new is same = ap (λ (y : Y). y ∷ map f xs) (same ∙ ap f (sym (same_Some x old is)))
map_kept {X} {Y} f (x ∷ xs) (suc k) old new is same = ap (λ (ys : List Y). f x ∷ ys) (map_kept f xs k old new is same)
