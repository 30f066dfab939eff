-- The first index of an element that passes a test.
use Rattle.std.proofs.Common.{◌≡◌, ◌∙◌, ◌+◌, ◌≤◌, ℕ, Bool, true, false, cond, eqb, List, [], ◌∷◌, ◌++◌, Some}
use Rattle.std.proofs.Common.{None, length, length-append, refl, sym, ap, arith, inl, inr}
use Rattle.std.specs.Prelude.{find, nat_lt, position, slice_get}
use Rattle.std.specs.List.{position_or_len}
use Rattle.std.proofs.lemmas.Bool.{cases_lt, eq-eqb, le-ltb, lt-ltb, ltb-false, ne_eqb}
use Rattle.std.proofs.lemmas.List.Folds.{find_at, position_or_len_push}
use Rattle.std.proofs.lemmas.List.Sums.{prefix_len-le-length}
use Rattle.std.proofs.lemmas.Option.{slice_get_past}
use Rattle.cqf_lists.specs.Lists.{or_else}

-- the index of the last element, if nothing passes before it
last_index : (m : ℕ) (b : Bool) → cond (nat_lt (m + cond b 0 1) (m + 1)) (Some (m + cond b 0 1)) None ≡ cond b (Some m) None
last_index m true =
    let same : m + 0 ≡ m = omega arith in
    rw (same, lt-ltb m (m + 1) (omega arith)) refl
last_index m false = rw (le-ltb (m + 1) (m + 1) (omega arith)) refl

-- the first index after one more element, from the first index without it
index_by : (n m : ℕ) (b : Bool) → n ≤ m → cond (nat_lt (cond (eqb n m) (m + cond b 0 1) n) (m + 1)) (Some (cond (eqb n m) (m + cond b 0 1) n)) None
    ≡ or_else (cond (nat_lt n m) (Some n) None) (cond b (Some m) None)
index_by n m b within = elim (cases_lt n m) [
  | inl l ↦ rw (ne_eqb n m (λ e. omega (arith, l, e)), lt-ltb n (m + 1) (omega (arith, l)), lt-ltb n m l) refl
  | inr g ↦ rw (eq-eqb n m (omega (arith, g, within)), le-ltb n m g) (last_index m b)
]

-- with one more element, the first index is what it was, or else the last
pub position-push : {X : Type 0} (p : X → Bool) (xs : List X) (y : X) →
    position p (xs ++ y ∷ []) ≡ or_else (position p xs) (cond (p y) (Some (length xs)) None)
position-push p xs y =
    rw (position_or_len_push p xs y, length-append xs (y ∷ [])) (index_by (position_or_len p xs) (length xs) (p y) (prefix_len-le-length _ xs))

-- the first element that passes is at the first index that passes
pub found_there : {X : Type 0} (p : X → Bool) (xs : List X) (index : ℕ) → position p xs ≡ Some index → slice_get xs index ≡ find p xs
found_there p xs index is = by (nat_lt (position_or_len p xs) (length xs)) is
  where
    by : (b : Bool) → cond b (Some (position_or_len p xs)) None ≡ Some index → slice_get xs index ≡ find p xs
    by true h =
        let same : position_or_len p xs ≡ index = cc in
        ap (slice_get xs) (sym same) ∙ sym (find_at p xs)
    by false h = absurd cc

-- if there is no such index, there is no such element
pub found_nowhere : {X : Type 0} (p : X → Bool) (xs : List X) → position p xs ≡ None → None ≡ find p xs
found_nowhere p xs is = by (nat_lt (position_or_len p xs) (length xs)) refl is
  where
    by : (b : Bool) → nat_lt (position_or_len p xs) (length xs) ≡ b → cond b (Some (position_or_len p xs)) None ≡ None → None ≡ find p xs
    by true e h = absurd cc
    by false e h = sym (find_at p xs ∙ slice_get_past xs (position_or_len p xs) (ltb-false (position_or_len p xs) (length xs) e))
