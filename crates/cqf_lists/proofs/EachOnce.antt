-- Lists without repetitions, and the elements of concatenated lists.
use Rattle.std.proofs.Common.{◌≡◌, ℕ, ◌+◌, ◌<◌, ◌⊎◌, Bool, true, false, cond, List, Some, length, refl, sym, ap, ◌∙◌, inl, inr, arith, subst, append_assoc}
use Rattle.std.proofs.Common.{append-nil}
use Rattle.std.specs.Prelude.{[], ◌∷◌, ◌++◌, fold, slice_get, take, zero, suc}
use Rattle.std.specs.List.{AllPairs, Contains, flat_map, list_any}
use Rattle.std.proofs.lemmas.List.{take-append-le, take_at}
use Rattle.std.proofs.lemmas.List.Elements.{Contains-append_left, Contains-append_cases, Contains-push}
use Rattle.std.proofs.lemmas.Option.{same_Some, slice_get_within}
use Rattle.cqf_lists.specs.Lists.{each_once}
use Rattle.cqf_lists.proofs.Any.{none_member}
use Rattle.cqf_lists.proofs.Members.{any_member, contains_at, contains_cases, contains_here, contains_later, contains_none}
use Rattle.cqf_lists.proofs.Pairs.{pairs_none, pairs_push}
use Rattle.cqf_lists.proofs.Indices.{slice_get-take, slice_get_parts}

-- the kept elements, with one more unless it is a repetition
abbrev pub kept_with : {X : Type 0} → Bool → List X → X → List X
kept_with b kept x = cond b kept (kept ++ x ∷ [])

-- the kept elements, with the next one unless it is the same as one of them
abbrev pub keep : {X : Type 0} → (X → X → Bool) → List X → X → List X
keep same kept x = kept_with (list_any (λ y. same y x) kept) kept x

-- the kept elements remain at the front
kept_front : {X : Type 0} (b : Bool) (kept : List X) (x : X) → (rest : List X) × (kept_with b kept x ≡ kept ++ rest)
kept_front true kept x = ([], sym (append-nil kept))
kept_front false kept x = (x ∷ [], refl)

-- each kept element was kept before, or is the new one
kept_cases : {X : Type 0} (b : Bool) (kept : List X) (x z : X) → Contains (kept_with b kept x) z → Contains kept z ⊎ (x ≡ z)
kept_cases true kept x z c = inl c
kept_cases false kept x z c = elim (Contains-append_cases kept (x ∷ []) z c) [
  | inl k ↦ inl k
  | inr k ↦ elim (contains_cases x [] z k) [ inl e ↦ inr e | inr n ↦ absurd (contains_none z n) ]
]

module _ {X : Type 0} (same : X → X → Bool) where
  -- the kept elements remain at the front
  front : (kept xs : List X) → (rest : List X) × (fold (keep same) kept xs ≡ kept ++ rest)
  front kept [] = ([], sym (append-nil kept))
  front kept (x ∷ xs) =
      let one = kept_front (list_any (λ y. same y x) kept) kept x in
      let more = front (keep same kept x) xs in
      (one.0 ++ more.0, more.1 ∙ ap (λ (ys : List X). ys ++ more.0) one.1 ∙ append_assoc kept one.0 more.0)

  -- each kept element remains
  stays : (kept xs : List X) (z : X) → Contains kept z → Contains (fold (keep same) kept xs) z
  stays kept xs z c = let f = front kept xs in subst (λ (ys : List X). Contains ys z) (sym f.1) (Contains-append_left kept f.0 z c)

  -- each element kept at the end was kept before, or is from the list
  from : (kept xs : List X) (z : X) → Contains (fold (keep same) kept xs) z → Contains kept z ⊎ Contains xs z
  from kept [] z c = inl c
  from kept (x ∷ xs) z c = elim (from (keep same kept x) xs z c) [
    | inl k ↦ elim (kept_cases (list_any (λ y. same y x) kept) kept x z k) [
      | inl a ↦ inl a
      | inr e ↦
          inr (subst (λ (y : X). Contains (x ∷ xs) y) e (contains_here x xs))
    ]
    | inr k ↦ inr (contains_later x xs z k)
  ]

  -- for each element of the list, one that is the same is kept
  module _ (itself : (x : X) → same x x ≡ true) where
    -- after an element's step, one that is the same as it is kept
    one_kept : (kept : List X) (x : X) → (y : X) × Contains (keep same kept x) y × (same y x ≡ true)
    one_kept kept x = by_test (list_any (λ y. same y x) kept) refl
      where
        by_test : (b : Bool) → list_any (λ y. same y x) kept ≡ b → (y : X) × Contains (kept_with b kept x) y × (same y x ≡ true)
        by_test true e = any_member (λ y. same y x) kept e
        by_test false e = (x, Contains-push kept x, itself x)

    cover : (kept xs : List X) (z : X) → Contains xs z → (y : X) × Contains (fold (keep same) kept xs) y × (same y z ≡ true)
    cover kept [] z c = absurd (contains_none z c)
    cover kept (x ∷ xs) z c = elim (contains_cases x xs z c) [
      | inl e ↦ let y = one_kept kept x in (y.0, stays (keep same kept x) xs y.0 y.1, subst (λ w. same y.0 w ≡ true) e y.2)
      | inr k ↦ cover (keep same kept x) xs z k
    ]

    pub once_covers : (xs : List X) (z : X) → Contains xs z → (y : X) × Contains (each_once same xs) y × (same y z ≡ true)
    once_covers xs z c = cover [] xs z c

  -- each kept element is from the list
  pub once_from : (xs : List X) (z : X) → Contains (each_once same xs) z → Contains xs z
  once_from xs z c = elim (from [] xs z c) [ inl n ↦ absurd (contains_none z n) | inr k ↦ k ]

  -- no two of the kept elements are the same
  pairs_step : (kept : List X) (x : X) → AllPairs (λ (a b : X). same a b ≡ false) kept → AllPairs (λ (a b : X). same a b ≡ false) (keep same kept x)
  pairs_step kept x p = by_test (list_any (λ y. same y x) kept) refl
    where
      by_test : (b : Bool) → list_any (λ y. same y x) kept ≡ b → AllPairs (λ (a c : X). same a c ≡ false) (kept_with b kept x)
      by_test true e = p
      by_test false e = pairs_push (λ (a c : X). same a c ≡ false) kept x p (λ y c. none_member (λ z. same z x) kept y e c)

  -- the kept elements are pairwise different
  pairs : (kept xs : List X) → AllPairs (λ (a b : X). same a b ≡ false) kept → AllPairs (λ (a b : X). same a b ≡ false) (fold (keep same) kept xs)
  pairs kept [] p = p
  pairs kept (x ∷ xs) p = pairs (keep same kept x) xs (pairs_step kept x p)

  -- so no two elements that are the same remain
  pub once_apart : (xs : List X) → AllPairs (λ (a b : X). same a b ≡ false) (each_once same xs)
  once_apart xs = pairs [] xs (pairs_none (λ (a b : X). same a b ≡ false))

  -- an element at an index among the kept ones was there before, or is the new one at the end
  new_index : (b : Bool) (kept : List X) (x : X) (p : ℕ) (z : X) → slice_get (kept_with b kept x) p ≡ Some z →
      (slice_get kept p ≡ Some z) ⊎ ((b ≡ false) × (p ≡ length kept) × (x ≡ z))
  new_index true kept x p z e = inl e
  new_index false kept x p z e = elim (slice_get_parts kept (x ∷ []) p z e) [
    | inl a ↦ inl a
    | inr w ↦ inr (refl, last w.0 w.1 w.2, here w.0 w.2)
  ]
    where
      last : (k : ℕ) → p ≡ length kept + k → slice_get (x ∷ []) k ≡ Some z → p ≡ length kept
      last zero i f = omega (arith, i)
      last (suc k) i f = absurd cc

      here : (k : ℕ) → slice_get (x ∷ []) k ≡ Some z → x ≡ z
      here zero f = same_Some x z f
      here (suc k) f = absurd cc

  -- each kept element is from the list; those kept before it are what is kept of the elements before it
  index : (kept xs : List X) (p : ℕ) (z : X) → slice_get (fold (keep same) kept xs) p ≡ Some z →
      (slice_get kept p ≡ Some z) ⊎ ((i : ℕ) × (slice_get xs i ≡ Some z) × (take p (fold (keep same) kept xs) ≡ fold (keep same) kept (take i xs)))
  index kept [] p z e = inl e
  index kept (x ∷ xs) p z e = elim (index (keep same kept x) xs p z e) [
    | inr w ↦ inr (suc w.0, w.1, w.2)
    | inl a ↦ elim (new_index (list_any (λ y. same y x) kept) kept x p z a) [
      | inl k ↦ inl k
      | inr w ↦ (let f = front (keep same kept x) xs in
          let grown : keep same kept x ≡ kept ++ x ∷ [] = ap (λ (b : Bool). kept_with b kept x) w.0 in
          let whole : fold (keep same) (keep same kept x) xs ≡ kept ++ (x ∷ [] ++ f.0) = f.1 ∙ ap (λ (ys : List X). ys ++ f.0) grown
          ∙ append_assoc kept (x ∷ []) f.0 in
          inr (0, ap (λ y. Some y) w.2, ap (λ (ys : List X). take p ys) whole ∙ take_at kept (x ∷ [] ++ f.0) p (sym w.1)))
    ]
  ]

  -- each kept element is from the list; those kept before it are what is kept of the elements before it
  pub once_index : (xs : List X) (p : ℕ) (z : X) → slice_get (each_once same xs) p ≡ Some z → (i : ℕ) × (slice_get xs i ≡ Some z) ×
      (take p (each_once same xs) ≡ each_once same (take i xs))
  once_index xs p z e = elim (index [] xs p z e) [ inl n ↦ absurd cc | inr w ↦ w ]

-- ---- concatenated lists

module _ {X A : Type 0} (f : X → List A) where
  -- an element at index i of a concatenation is from one of the lists, and all elements before it there precede it in the concatenation
  pub record StandsIn (xs : List X) (i : ℕ) (z : A) : Type 0 where
    pub x : X
    pub of_list : Contains xs x
    pub k : ℕ
    pub at : slice_get (f x) k ≡ Some z
    pub before : (y : A) (j : ℕ) → j < k → slice_get (f x) j ≡ Some y → Contains (take i (flat_map f xs)) y

  -- an element of the first list
  in_first : (x : X) (xs : List X) (i : ℕ) (z : A) → slice_get (f x) i ≡ Some z → StandsIn (x ∷ xs) i z
  in_first x xs i z e = record {
    x = x;
    of_list = contains_here x xs;
    k = i;
    at = e;
    before = λ y j h g.
        subst (λ (ys : List A). Contains ys y) (sym (take-append-le i (f x) (flat_map f xs) (omega (arith, slice_get_within (f x) i z e))))
        (contains_at (take i (f x)) j y (slice_get-take (f x) i j h ∙ g));
  }

  -- each element of a concatenation is from one of the lists
  pub flat_index : (xs : List X) (i : ℕ) (z : A) → slice_get (flat_map f xs) i ≡ Some z → StandsIn xs i z
  flat_index [] i z e = absurd cc
  flat_index (x ∷ xs) i z e = elim (slice_get_parts (f x) (flat_map f xs) i z e) [
    | inl a ↦ in_first x xs i z a
    | inr w ↦ (let r = flat_index xs w.0 z w.2 in record {
      x = r.x;
      of_list = contains_later x xs r.x r.of_list;
      k = r.k;
      at = r.at;
      before = λ y j h g. following (f x) (flat_map f xs) i w.0 y w.1 (r.before y j h g);
    })
  ]
    where
      following : (front rest : List A) (i k : ℕ) (y : A) → i ≡ length front + k → Contains (take k rest) y → Contains (take i (front ++ rest)) y
      following [] rest i k y e c = let same_i : k ≡ i = omega (arith, e) in subst (λ (n : ℕ). Contains (take n rest) y) same_i c
      following (a ∷ front) rest zero k y e c = absurd (omega (arith, e))
      following (a ∷ front) rest (suc i) k y e c = contains_later a (take i (front ++ rest)) y (following front rest i k y (omega (arith, e)) c)
