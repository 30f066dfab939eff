-- The first element of a list that equals an earlier one, by a test of the two.
use Rattle.std.proofs.Common.{◌≡◌, ◌≤◌, ◌<◌, ◌+◌, ℕ, zero, suc, List, [], ◌∷◌, ◌++◌, Bool, true, false, ◌||◌, cond, Option, Some, None, length, slice_get, refl}
use Rattle.std.proofs.Common.{ap, sym, subst, ◌∙◌, append_assoc, length-append, inl, inr, arith}
use Rattle.std.specs.List.{list_any}
use Rattle.std.proofs.lemmas.Bool.{cases_lt, true≢false}
use Rattle.std.proofs.lemmas.Option.{slice_get_within}
use Rattle.cqf_lists.proofs.Indices.{slice_get_after}

-- an element of the first part is in the whole list at the same index
at-left : {X : Type 0} (xs ys : List X) (j : ℕ) (a : X) → slice_get xs j ≡ Some a → slice_get (xs ++ ys) j ≡ Some a
at-left [] ys j a h = cc
at-left (x ∷ xs) ys zero a h = h
at-left (x ∷ xs) ys (suc j) a h = at-left xs ys j a h

-- and at an index of the first part the whole list has the element of that part
at-front : {X : Type 0} (xs ys : List X) (j : ℕ) (a : X) → j < length xs → slice_get (xs ++ ys) j ≡ Some a → slice_get xs j ≡ Some a
at-front [] ys j a inside h = absurd (omega arith)
at-front (x ∷ xs) ys zero a inside h = h
at-front (x ∷ xs) ys (suc j) a inside h = at-front xs ys j a (omega arith) h

-- if a test finds an element, it finds it at an index
any-at : {X : Type 0} (p : X → Bool) (xs : List X) → list_any p xs ≡ true → (j : ℕ) × (a : X) × (j < length xs) × (slice_get xs j ≡ Some a) × (p a ≡ true)
any-at p [] h = absurd (true≢false (sym h))
any-at {X} p (x ∷ xs) h = by (p x) refl (λ e. any-at p xs e) h
  where
    -- the element that passes has an index, first or later
    by : (b : Bool) → p x ≡ b → (list_any p xs ≡ true → (j : ℕ) × (a : X) × (j < length xs) × (slice_get xs j ≡ Some a) × (p a ≡ true))
        → (b || list_any p xs) ≡ true → (j : ℕ) × (a : X) × (j < length (x ∷ xs)) × (slice_get (x ∷ xs) j ≡ Some a) × (p a ≡ true)
    by true e rest h = (0, x, omega arith, refl, e)
    by false e rest h = let (j, a, inside, at, is) = rest h in (suc j, a, omega (arith, inside), at, is)

-- if a test finds no element, it passes at no index
none-at : {X : Type 0} (p : X → Bool) (xs : List X) → list_any p xs ≡ false → (j : ℕ) (a : X) → slice_get xs j ≡ Some a → p a ≡ false
none-at p [] h j a at = absurd (cc)
none-at p (x ∷ xs) h j a at = by (p x) refl (λ e k there. none-at p xs e k a there) h j at
  where
    -- nothing passes at any index, first or later
    by : (b : Bool) → p x ≡ b → (list_any p xs ≡ false → (k : ℕ) → slice_get xs k ≡ Some a → p a ≡ false)
        → (b || list_any p xs) ≡ false → (j : ℕ) → slice_get (x ∷ xs) j ≡ Some a → p a ≡ false
    by true e rest h j at = absurd (true≢false h)
    by false e rest h zero at = let is : x ≡ a = cc in subst (λ y. p y ≡ false) is e
    by false e rest h (suc j) at = rest h j at

module _ {X : Type 0} (same : X → X → Bool) where
  -- the index of the first element that equals an earlier one
  abbrev pub first_repeat : List X → List X → Option ℕ
  first_repeat earlier [] = None
  first_repeat earlier (x ∷ xs) = cond (list_any (same x) earlier) (Some (length earlier)) (first_repeat (earlier ++ x ∷ []) xs)

  -- an earlier element equals the one at this index
  pub record Repeats (xs : List X) (k : ℕ) : Type 0 where
    pub twin : ℕ
    pub earlier : twin < k
    pub a : X
    pub b : X
    pub at_twin : slice_get xs twin ≡ Some a
    pub at_index : slice_get xs k ≡ Some b
    pub equal : same b a ≡ true

  -- from the index `from` on, none before `k` repeats, and the one at `k` does
  pub record IsFirst (xs : List X) (from k : ℕ) : Type 0 where
    pub following : from ≤ k
    pub repeats : Repeats xs k
    pub least : (i : ℕ) → from ≤ i → i < k → ¬ Repeats xs i

  -- the element right after the first part repeats none of it
  fresh : (earlier xs : List X) (x : X) → list_any (same x) earlier ≡ false → ¬ Repeats (earlier ++ x ∷ xs) (length earlier)
  fresh earlier xs x none r =
      let is : x ≡ r.b = some-inj (sym (slice_get_after earlier x xs (length earlier) refl) ∙ r.at_index) in
      let there : slice_get earlier r.twin ≡ Some r.a = at-front earlier (x ∷ xs) r.twin r.a r.earlier r.at_twin in
      let differs : same x r.a ≡ false = none-at (same x) earlier none r.twin r.a there in
      true≢false (sym r.equal ∙ ap (λ y. same y r.a) (sym is) ∙ differs)
    where
      some-inj : ◌≡◌ {A = Option X} (Some x) (Some r.b) → x ≡ r.b
      some-inj e = cc

  -- one more element makes the list longer by 1
  longer : (earlier : List X) (x : X) → length (earlier ++ x ∷ []) ≡ length earlier + 1
  longer earlier x = length-append earlier (x ∷ [])

  -- the index that is returned is the first
  pub first_repeat-Some : (earlier xs : List X) (k : ℕ) → first_repeat earlier xs ≡ Some k → IsFirst (earlier ++ xs) (length earlier) k
  first_repeat-Some earlier [] k h = cc
  first_repeat-Some earlier (x ∷ xs) k h = by (list_any (same x) earlier) refl (first_repeat-Some (earlier ++ x ∷ []) xs k) h
    where
      by : (b : Bool) → list_any (same x) earlier ≡ b →
          (first_repeat (earlier ++ x ∷ []) xs ≡ Some k → IsFirst ((earlier ++ x ∷ []) ++ xs) (length (earlier ++ x ∷ [])) k)
          → cond b (Some (length earlier)) (first_repeat (earlier ++ x ∷ []) xs) ≡ Some k → IsFirst (earlier ++ x ∷ xs) (length earlier) k
      by true e rest h =
          let (j, a, inside, at, is) = any-at (same x) earlier e in
          let index : length earlier ≡ k = cc in
          subst (IsFirst (earlier ++ x ∷ xs) (length earlier)) index (record {
            following = omega arith;
            repeats = record {
              twin = j;
              earlier = inside;
              a = a;
              b = x;
              at_twin = at-left earlier (x ∷ xs) j a at;
              at_index =
                  slice_get_after earlier x xs (length earlier) refl;
              equal = is;
            };
            least = λ i from before. absurd (omega (arith, from, before));
          })
      by false e rest h =
          let more = subst (λ ys. IsFirst ys (length (earlier ++ x ∷ [])) k) (append_assoc earlier (x ∷ []) xs) (rest h) in
          let one = longer earlier x in
          record {
            following = omega (arith, more.following, one);
            repeats = more.repeats;
            least = λ i from before. elim (cases_lt (length earlier) i) [
              | inl later ↦ more.least i (omega (arith, later, one)) before
              | inr not_later ↦ let here : length earlier ≡ i = omega (arith, from, not_later) in
                  subst (λ m. ¬ Repeats (earlier ++ x ∷ xs) m) here (fresh earlier xs x e)
            ];
          }

  -- if no index is returned, no element repeats
  pub first_repeat-None : (earlier xs : List X) → first_repeat earlier xs ≡ None → (i : ℕ) → length earlier ≤ i → ¬ Repeats (earlier ++ xs) i
  first_repeat-None earlier [] h = λ i from r. past (earlier ++ []) i r.b (omega (arith, length-append earlier [], from)) r.at_index
    where
      past : (ys : List X) (i : ℕ) (y : X) → length ys ≤ i → slice_get ys i ≡ Some y → ⊥
      past ys i y beyond e = let inside = slice_get_within ys i y e in omega (arith, inside, beyond)
  first_repeat-None earlier (x ∷ xs) h = by (list_any (same x) earlier) refl (first_repeat-None (earlier ++ x ∷ []) xs) h
    where
      by : (b : Bool) → list_any (same x) earlier ≡ b →
          (first_repeat (earlier ++ x ∷ []) xs ≡ None → (i : ℕ) → length (earlier ++ x ∷ []) ≤ i → ¬ Repeats ((earlier ++ x ∷ []) ++ xs) i)
          → cond b (Some (length earlier)) (first_repeat (earlier ++ x ∷ []) xs) ≡ None → (i : ℕ) → length earlier ≤ i → ¬ Repeats (earlier ++ x ∷ xs) i
      by true e rest h i from = absurd (cc)
      by false e rest h i from =
          let one = longer earlier x in
          elim (cases_lt (length earlier) i) [
            | inl later ↦ subst (λ ys. ¬ Repeats ys i) (append_assoc earlier (x ∷ []) xs) (rest h i (omega (arith, later, one)))
            | inr not_later ↦ let here : length earlier ≡ i = omega (arith, from, not_later) in
                subst (λ m. ¬ Repeats (earlier ++ x ∷ xs) m) here (fresh earlier xs x e)
          ]
