-- Members of lists.
use Rattle.std.proofs.Common.{◌≡◌, ℕ, zero, suc, ◌<◌, ◌⊎◌, ◌||◌, ◌∷◌, [], ◌++◌, List, Bool, true, Some, length, get_or, map, filter, flat_map, find, take, inl}
use Rattle.std.proofs.Common.{inr, sym, ap, ◌∙◌, subst, arith, refl, All, Contains}
use Rattle.std.specs.Prelude.{slice_get}
use Rattle.std.specs.List.{list_any}
use Rattle.std.proofs.lemmas.Bool.{cases_Bool, cond-true, cond-false, false≢true}
use Rattle.std.proofs.lemmas.List.Elements.{Contains-get_or, Contains-append_left, Contains-append_right, Contains-append_cases}
use Rattle.std.proofs.lemmas.Option.{slice_get-get_or, get_or_from_slice_get, slice_get_within}

-- a list's first element is a member
pub contains_here : {X : Type 0} (x : X) (xs : List X) → Contains (x ∷ xs) x
contains_here x xs = (zero, omega arith, refl)

-- a member remains one with one more element in front
pub contains_later : {X : Type 0} (y : X) (xs : List X) (x : X) → Contains xs x → Contains (y ∷ xs) x
contains_later y xs x c = (suc c.0, omega (arith, c.1), c.2)

-- a member is the first element or a member of the rest
pub contains_cases : {X : Type 0} (y : X) (xs : List X) (x : X) → Contains (y ∷ xs) x → (y ≡ x) ⊎ Contains xs x
contains_cases {X} y xs x c = go c.0 c.1 c.2
  where
    -- the element at an index is the first element or a member of the rest
    go : (k : ℕ) → k < length (y ∷ xs) → get_or (y ∷ xs) k x ≡ x → (y ≡ x) ⊎ Contains xs x
    go zero l e = inl e
    go (suc k) l e = inr (k, omega (arith, l), e)

-- an empty list has no member
pub contains_none : {X : Type 0} (x : X) → Contains [] x → ⊥
contains_none x c = omega (arith, c.1)

-- the member of a list of one element
pub contains_one : {X : Type 0} (y x : X) → Contains (y ∷ []) x → y ≡ x
contains_one y x c = elim (contains_cases y [] x c) [ inl e ↦ e | inr never ↦ absurd (contains_none x never) ]

-- a property of each member is one of all
pub all_from_members : {X : Type 0} (P : X → Type 0) (xs : List X) → ((x : X) → Contains xs x → P x) → All P xs
all_from_members P xs each k d inside = each (get_or xs k d) (Contains-get_or xs k d inside)

-- the image of a member is a member of the mapped list
pub contains_map : {X Y : Type 0} (f : X → Y) (xs : List X) (x : X) → Contains xs x → Contains (map f xs) (f x)
contains_map f [] x c = absurd (contains_none x c)
contains_map f (y ∷ xs) x c = elim (contains_cases y xs x c) [
  | inl e ↦ subst (λ z. Contains (f y ∷ map f xs) (f z)) e (contains_here (f y) (map f xs))
  | inr h ↦ contains_later (f y) (map f xs) (f x) (contains_map f xs x h)
]

-- a member of a mapped list is the image of a member
pub contains_from_map : {X Y : Type 0} (f : X → Y) (xs : List X) (y : Y) → Contains (map f xs) y → (x : X) × Contains xs x × (f x ≡ y)
contains_from_map f [] y c = absurd (contains_none y c)
contains_from_map f (x ∷ xs) y c = elim (contains_cases (f x) (map f xs) y c) [
  | inl e ↦ (x, contains_here x xs, e)
  | inr h ↦ let r = contains_from_map f xs y h in (r.0, contains_later x xs r.0 r.1, r.2)
]

-- a member that passes is kept
pub contains_filter : {X : Type 0} (p : X → Bool) (xs : List X) (x : X) → Contains xs x → p x ≡ true → Contains (filter p xs) x
contains_filter p [] x c passes = absurd (contains_none x c)
contains_filter p (y ∷ xs) x c passes = elim (contains_cases y xs x c) [
  | inl e ↦ subst (λ z. Contains z x) (sym (cond-true (p y) (y ∷ filter p xs) (filter p xs) (ap p e ∙ passes)))
      (subst (λ z. Contains (y ∷ filter p xs) z) e (contains_here y (filter p xs)))
  | inr h ↦ elim (cases_Bool (p y)) [
    | inl t ↦ subst (λ z. Contains z x) (sym (cond-true (p y) (y ∷ filter p xs) (filter p xs) t))
        (contains_later y (filter p xs) x (contains_filter p xs x h passes))
    | inr f ↦ subst (λ z. Contains z x) (sym (cond-false (p y) (y ∷ filter p xs) (filter p xs) f)) (contains_filter p xs x h passes)
  ]
]

-- each kept element is a member that passes
pub contains_from_filter : {X : Type 0} (p : X → Bool) (xs : List X) (x : X) → Contains (filter p xs) x → Contains xs x × (p x ≡ true)
contains_from_filter p [] x c = absurd (contains_none x c)
contains_from_filter p (y ∷ xs) x c = elim (cases_Bool (p y)) [
  | inl t ↦ elim (contains_cases y (filter p xs) x (subst (λ z. Contains z x) (cond-true (p y) (y ∷ filter p xs) (filter p xs) t) c)) [
    | inl e ↦ (subst (λ z. Contains (y ∷ xs) z) e (contains_here y xs), ap p (sym e) ∙ t)
    | inr h ↦ let r = contains_from_filter p xs x h in (contains_later y xs x r.0, r.1)
  ]
  | inr f ↦ let r = contains_from_filter p xs x (subst (λ z. Contains z x) (cond-false (p y) (y ∷ filter p xs) (filter p xs) f) c) in
      (contains_later y xs x r.0, r.1)
]

-- a member of one of the lists is a member of their concatenation
pub contains_flat : {X Y : Type 0} (f : X → List Y) (xs : List X) (x : X) (y : Y) → Contains xs x → Contains (f x) y → Contains (flat_map f xs) y
contains_flat f [] x y c h = absurd (contains_none x c)
contains_flat f (z ∷ xs) x y c h = elim (contains_cases z xs x c) [
  | inl e ↦ Contains-append_left (f z) (flat_map f xs) y (subst (λ w. Contains (f w) y) (sym e) h)
  | inr l ↦ Contains-append_right (f z) (flat_map f xs) y (contains_flat f xs x y l h)
]

-- each member of the concatenation is a member of one of the lists
pub contains_from_flat : {X Y : Type 0} (f : X → List Y) (xs : List X) (y : Y) → Contains (flat_map f xs) y → (x : X) × Contains xs x × Contains (f x) y
contains_from_flat f [] y c = absurd (contains_none y c)
contains_from_flat f (x ∷ xs) y c = elim (Contains-append_cases (f x) (flat_map f xs) y c) [
  | inl h ↦ (x, contains_here x xs, h)
  | inr l ↦ let r = contains_from_flat f xs y l in (r.0, contains_later x xs r.0 r.1, r.2)
]

-- the result of `find` is a member that passes
pub find_member : {X : Type 0} (test : X → Bool) (xs : List X) (x : X) → find test xs ≡ Some x → Contains xs x × (test x ≡ true)
find_member test [] x e = absurd (cc)
find_member test (y ∷ ys) x e = elim (cases_Bool (test y)) [
  | inl t ↦
      let same : Some y ≡ Some x = sym (cond-true (test y) (Some y) (find test ys) t) ∙ e in
      let is : y ≡ x = cc in
      (subst (λ z. Contains (y ∷ ys) z) is (contains_here y ys), ap test (sym is) ∙ t)
  | inr f ↦
      let r = find_member test ys x (sym (cond-false (test y) (Some y) (find test ys) f) ∙ e) in
      (contains_later y ys x r.0, r.1)
]

-- if some member passes, `find` returns one
pub find_some : {X : Type 0} (test : X → Bool) (xs : List X) (x : X) → Contains xs x → test x ≡ true → (y : X) × (find test xs ≡ Some y)
find_some test [] x c t = absurd (contains_none x c)
find_some test (z ∷ xs) x c t = elim (cases_Bool (test z)) [
  | inl u ↦ (z, cond-true (test z) (Some z) (find test xs) u)
  | inr u ↦ elim (contains_cases z xs x c) [
    | inl e ↦ absurd (false≢true (sym u ∙ ap test e ∙ t))
    | inr h ↦ let r = find_some test xs x h t in (r.0, cond-false (test z) (Some z) (find test xs) u ∙ r.1)
  ]
]

-- if `list_any` is true, some member passes
pub any_member : {X : Type 0} (p : X → Bool) (xs : List X) → list_any p xs ≡ true → (x : X) × Contains xs x × (p x ≡ true)
any_member p [] e = absurd (cc)
any_member p (x ∷ xs) e = elim (cases_Bool (p x)) [
  | inl t ↦ (x, contains_here x xs, t)
  | inr f ↦ let r = any_member p xs (sym (ap (λ b. b || list_any p xs) f) ∙ e) in (r.0, contains_later x xs r.0 r.1, r.2)
]

-- if a member passes, `list_any` is true
pub member_any : {X : Type 0} (p : X → Bool) (xs : List X) (x : X) → Contains xs x → p x ≡ true → list_any p xs ≡ true
member_any p [] x c t = absurd (contains_none x c)
member_any p (y ∷ xs) x c t = elim (cases_Bool (p y)) [
  | inl u ↦ ap (λ b. b || list_any p xs) u
  | inr u ↦ elim (contains_cases y xs x c) [
    | inl e ↦ absurd (false≢true (sym u ∙ ap p e ∙ t))
    | inr h ↦ ap (λ b. b || list_any p xs) u ∙ member_any p xs x h t
  ]
]

-- a list is the elements before a member, the member, and the elements after it
pub parted_at : {X : Type 0} (xs : List X) (x : X) → Contains xs x → (before after : List X) × (xs ≡ before ++ (x ∷ after))
parted_at [] x c = absurd (contains_none x c)
parted_at (y ∷ xs) x c = elim (contains_cases y xs x c) [
  | inl e ↦ ([], xs, ap (λ z. z ∷ xs) e)
  | inr h ↦ let r = parted_at xs x h in (y ∷ r.0, r.1, ap (λ z. y ∷ z) r.2)
]

-- the element at an index is a member
pub contains_at : {X : Type 0} (xs : List X) (k : ℕ) (x : X) → slice_get xs k ≡ Some x → Contains xs x
contains_at xs k x e = (k, slice_get_within xs k x e, get_or_from_slice_get xs k x x e)

-- a member is at some index
pub index_of_member : {X : Type 0} (xs : List X) (x : X) → Contains xs x → (k : ℕ) × (slice_get xs k ≡ Some x)
index_of_member xs x (k, h, e) = (k, slice_get-get_or xs k x h ∙ ap (λ z. Some z) e)

-- a member of a front is a member of the list
pub contains_from_take : {X : Type 0} (xs : List X) (n : ℕ) (x : X) → Contains (take n xs) x → Contains xs x
contains_from_take xs zero x c = absurd (contains_none x c)
contains_from_take [] (suc n) x c = absurd (contains_none x c)
contains_from_take (y ∷ xs) (suc n) x c = elim (contains_cases y (take n xs) x c) [
  | inl e ↦ subst (λ z. Contains (y ∷ xs) z) e (contains_here y xs)
  | inr k ↦ contains_later y xs x (contains_from_take xs n x k)
]
