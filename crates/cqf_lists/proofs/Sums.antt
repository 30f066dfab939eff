-- Sums over lists: members, groups, and matched elements.
use Rattle.std.proofs.Common.{◌≡◌, ℕ, zero, suc, ◌+◌, ◌<◌, ◌≤◌, ◌⊎◌, length, get_or, take, ◌∷◌, [], List, Bool, true, map, filter, flat_map, inl, inr, sym, ap}
use Rattle.std.proofs.Common.{ap₂, ◌∙◌, subst, arith, refl, AllPairs, Contains, sum_by, if◌then◌else◌, ◌==◌, nat_lt, le_trans, zero-add, lt-ltb, le-ltb, ne_eqb}
use Rattle.std.proofs.Common.{eq-eqb}
use Rattle.std.specs.List.{enumerate_from}
use Rattle.std.proofs.lemmas.Bool.{cases_Bool, cases_order, cases_lt, cases_eq, cond-true, cond-false}
use Rattle.std.proofs.lemmas.List.Sums.{sum_by-cons, sum_by-append, sum_by_more_le, get_or-le-sum_by}
use Rattle.std.proofs.lemmas.List.{get_or-take, length-take-le}
use Rattle.cqf_lists.specs.Lists.{each_below}
use Rattle.cqf_lists.proofs.Members.{contains_here, contains_later}
use Rattle.cqf_lists.proofs.Pairs.{pairs_head, pairs_tail}

-- a sum whose terms are at most those of another is at most that sum
pub sum_le_members : {X : Type 0} (f g : X → ℕ) (xs : List X) → ((x : X) → Contains xs x → f x ≤ g x) → sum_by f xs ≤ sum_by g xs
sum_le_members f g [] each = omega arith
sum_le_members f g (x ∷ xs) each =
    omega (arith, sum_by-cons f x xs, sum_by-cons g x xs, each x (contains_here x xs), sum_le_members f g xs (λ y c. each y (contains_later x xs y c)))

-- a sum of zeros is 0
pub sum_none : {X : Type 0} (f : X → ℕ) (xs : List X) → ((x : X) → Contains xs x → f x ≡ 0) → sum_by f xs ≡ 0
sum_none f [] each = refl
sum_none f (x ∷ xs) each = omega (arith, sum_by-cons f x xs, each x (contains_here x xs), sum_none f xs (λ y c. each y (contains_later x xs y c)))

-- each term is at most the sum
pub sum_member : {X : Type 0} (f : X → ℕ) (xs : List X) (x : X) → Contains xs x → f x ≤ sum_by f xs
sum_member f xs x c = subst (λ z. f z ≤ sum_by f xs) c.2 (get_or-le-sum_by f xs c.0 x c.1)

-- the sum over a mapped list
pub sum_map : {X Y : Type 0} (f : Y → ℕ) (g : X → Y) (xs : List X) → sum_by f (map g xs) ≡ sum_by (λ x. f (g x)) xs
sum_map f g [] = refl
sum_map f g (x ∷ xs) = sum_by-cons f (g x) (map g xs) ∙ ap (λ z. f (g x) + z) (sum_map f g xs) ∙ sym (sum_by-cons (λ x. f (g x)) x xs)

-- the sum over a concatenation is the sum of the sums
pub sum_flat : {X Y : Type 0} (f : Y → ℕ) (g : X → List Y) (xs : List X) → sum_by f (flat_map g xs) ≡ sum_by (λ x. sum_by f (g x)) xs
sum_flat f g [] = refl
sum_flat f g (x ∷ xs) = sum_by-append f (g x) (flat_map g xs) ∙ ap (λ z. sum_by f (g x) + z) (sum_flat f g xs) ∙ sym (sum_by-cons (λ x. sum_by f (g x)) x xs)

-- numbering the elements doesn't change the sum
pub sum_indices : {X : Type 0} (f : X → ℕ) (n : ℕ) (xs : List X) → sum_by (λ (x : ℕ × X). f x.1) (enumerate_from n xs) ≡ sum_by f xs
sum_indices f n [] = refl
sum_indices {X} f n (x ∷ xs) = sum_by-cons (λ (x : ℕ × X). f x.1) (n, x) (enumerate_from (n + 1) xs) ∙ ap (λ z. f x + z) (sum_indices f (n + 1) xs)
    ∙ sym (sum_by-cons f x xs)

-- the sum of sums of two terms
pub sum_plus : {X : Type 0} (f g : X → ℕ) (xs : List X) → sum_by (λ x. f x + g x) xs ≡ sum_by f xs + sum_by g xs
sum_plus f g [] = refl
sum_plus f g (x ∷ xs) = omega (arith, sum_by-cons (λ x. f x + g x) x xs, sum_by-cons f x xs, sum_by-cons g x xs, sum_plus f g xs)

-- a double sum, in either order
pub double : {X Y : Type 0} (h : X → Y → ℕ) (xs : List X) (ys : List Y) → sum_by (λ x. sum_by (λ y. h x y) ys) xs ≡ sum_by (λ y. sum_by (λ x. h x y) xs) ys
double h [] ys = sym (sum_none (λ y. 0) ys (λ y c. refl))
double {X} {Y} h (x ∷ xs) ys =
    sum_by-cons (λ x. sum_by (λ y. h x y) ys) x xs
    ∙ ap (λ z. sum_by (λ y. h x y) ys + z) (double h xs ys)
    ∙ sym (sum_plus (λ y. h x y) (λ y. sum_by (λ x. h x y) xs) ys)
    ∙ ap (λ (f : Y → ℕ). sum_by f ys) (λ i. λ y. sym (sum_by-cons (λ x. h x y) x xs) i)

-- if at most one element passes the test, the sum is at most one term
pub sum_at_most_one : {X : Type 0} (test : X → Bool) (v : ℕ) (xs : List X) → AllPairs (λ x y. test x ≡ true → test y ≡ true → ⊥) xs →
    sum_by (λ x. if test x then v else 0) xs ≤ v
sum_at_most_one test v [] apart = omega arith
sum_at_most_one {X} test v (x ∷ xs) apart =
    let f : X → ℕ = λ x. if test x then v else 0 in
    elim (cases_Bool (test x)) [
      | inl t ↦
          let none : sum_by f xs ≡ 0 = sum_none f xs (λ y c. elim (cases_Bool (test y)) [
            | inl u ↦ absurd (pairs_head (λ x y. test x ≡ true → test y ≡ true → ⊥) x xs y apart c t u)
            | inr u ↦ cond-false (test y) v 0 u
          ]) in
          omega (arith, sum_by-cons f x xs, none, cond-true (test x) v 0 t)
      | inr u ↦
          omega (
            arith,
            sum_by-cons f x xs,
            cond-false (test x) v 0 u,
            sum_at_most_one test v xs
                (pairs_tail (λ x y. test x ≡ true → test y ≡ true → ⊥) x xs apart),
          )
    ]

-- if each term of one sum is covered by matching terms of the other, and none of these matches twice, the first sum is at most the second
pub sum_matched : {X Y : Type 0} (f : X → ℕ) (g : Y → ℕ) (match : X → Y → Bool) (xs : List X) (ys : List Y) →
    ((x : X) → Contains xs x → f x ≤ sum_by (λ y. if match x y then g y else 0) ys) →
    ((y : Y) → AllPairs (λ x z. match x y ≡ true → match z y ≡ true → ⊥) xs) → sum_by f xs ≤ sum_by g ys
sum_matched f g match xs ys has apart =
    let inner = sum_le_members f (λ x. sum_by (λ y. if match x y then g y else 0) ys) xs has in
    let outer = sum_le_members (λ y. sum_by (λ x. if match x y then g y else 0) xs) g ys (λ y c. sum_at_most_one (λ x. match x y) (g y) xs (apart y)) in
    le_trans inner (subst (λ z. z ≤ sum_by g ys) (sym (double (λ x y. if match x y then g y else 0) xs ys)) outer)

-- each element that counts is in a group, and each group is within its bound
pub sum_grouped : {X Y : Type 0} (f : X → ℕ) (h : X → Y → ℕ) (bound : Y → ℕ) (xs : List X) (ys : List Y) →
    ((x : X) → Contains xs x → ((y : Y) × Contains ys y × (f x ≤ h x y)) ⊎ (f x ≡ 0)) →
    ((y : Y) → Contains ys y → sum_by (λ x. h x y) xs ≤ bound y) → sum_by f xs ≤ sum_by bound ys
sum_grouped f h bound xs ys has within =
    let inner = sum_le_members f (λ x. sum_by (λ y. h x y) ys) xs (λ x c. elim (has x c) [
      | inl g ↦ le_trans g.2 (sum_member (λ y. h x y) ys g.0 g.1)
      | inr z ↦ omega (arith, z)
    ]) in
    let outer = sum_le_members (λ y. sum_by (λ x. h x y) xs) bound ys within in
    le_trans inner (subst (λ z. z ≤ sum_by bound ys) (sym (double h xs ys)) outer)

-- one more list in a concatenation
pub sum_below : {X : Type 0} (f : X → ℕ) (g : ℕ → List X) (n : ℕ) → sum_by f (each_below g (suc n)) ≡ sum_by f (each_below g n) + sum_by f (g n)
sum_below f g n = sum_by-append f (each_below g n) (g n)

-- if only one list counts, the sum over the concatenation is at most the sum over that list
pub sum_one_below : {X : Type 0} (f : X → ℕ) (g : ℕ → List X) (m n : ℕ) → ((k : ℕ) → (k ≡ m → ⊥) → sum_by f (g k) ≡ 0) →
    sum_by f (each_below g n) ≤ sum_by f (g m)
sum_one_below f g m zero others = omega arith
sum_one_below f g m (suc n) others = elim (cases_eq n m) [
  | inl same ↦
      let before : sum_by f (each_below g n) ≡ 0 = none_before n (omega (arith, same)) in
      omega (arith, sum_below f g n, before, ap (λ z. sum_by f (g z)) same)
  | inr differ ↦ omega (arith, sum_below f g n, others n differ, sum_one_below f g m n others)
]
  where
    -- the lists before the one that counts sum to 0
    none_before : (k : ℕ) → k ≤ m → sum_by f (each_below g k) ≡ 0
    none_before zero l = refl
    none_before (suc k) l = omega (arith, sum_below f g k, none_before k (omega (arith, l)), others k (λ e. absurd (omega (arith, e, l))))

-- the sum over what a filter keeps
pub sum_filter : {X : Type 0} (f : X → ℕ) (p : X → Bool) (xs : List X) → sum_by f (filter p xs) ≡ sum_by (λ x. if p x then f x else 0) xs
sum_filter f p [] = refl
sum_filter f p (x ∷ xs) = elim (cases_Bool (p x)) [
  | inl t ↦ ap (sum_by f) (cond-true (p x) (x ∷ filter p xs) (filter p xs) t) ∙ sum_by-cons f x (filter p xs)
      ∙ ap₂ (λ a b. a + b) (sym (cond-true (p x) (f x) 0 t)) (sum_filter f p xs) ∙ sym (sum_by-cons (λ x. if p x then f x else 0) x xs)
  | inr u ↦ ap (sum_by f) (cond-false (p x) (x ∷ filter p xs) (filter p xs) u) ∙ sum_filter f p xs
      ∙ sym (sum_by-cons (λ x. if p x then f x else 0) x xs ∙ ap (λ z. z + sum_by (λ x. if p x then f x else 0) xs) (cond-false (p x) (f x) 0 u)
      ∙ zero-add (sum_by (λ x. if p x then f x else 0) xs))
]

-- the sum over the elements key by key counts each element with a key below the bound once
pub sum_by_keys : {X : Type 0} (f : X → ℕ) (key : X → ℕ) (xs : List X) (n : ℕ) →
    sum_by f (each_below (λ t. filter (λ x. key x == t) xs) n) ≡ sum_by (λ x. if nat_lt (key x) n then f x else 0) xs
sum_by_keys f key xs zero = sym (sum_none (λ x. if nat_lt (key x) 0 then f x else 0) xs
    (λ x c. cond-false (nat_lt (key x) 0) (f x) 0 (le-ltb (key x) 0 (omega arith))))
sum_by_keys {X} f key xs (suc n) =
    sum_below f (λ t. filter (λ x. key x == t) xs) n
    ∙ ap₂ (λ a b. a + b) (sum_by_keys f key xs n) (sum_filter f (λ x. key x == n) xs)
    ∙ sym (sum_plus (λ x. if nat_lt (key x) n then f x else 0) (λ x. if key x == n then f x else 0) xs)
    ∙ ap (λ (h : X → ℕ). sum_by h xs) (λ i. λ x. one (key x) (f x) i)
  where
    -- a key is below the next number if it is below this one or equal to it
    one : (k v : ℕ) → (if nat_lt k n then v else 0) + (if k == n then v else 0) ≡ (if nat_lt k (suc n) then v else 0)
    one k v = elim (cases_order k n) [
      | inl e ↦ omega (
        arith,
        cond-false (nat_lt k n) v 0 (le-ltb k n (omega (arith, e))),
        cond-true (k == n) v 0 (eq-eqb k n e),
        cond-true
            (nat_lt k (suc n)) v 0 (lt-ltb k (suc n) (omega (arith, e))),
      )
      | inr o ↦ elim o [
        | inl l ↦ omega (
          arith,
          cond-true (nat_lt k n) v 0 (lt-ltb k n l),
          cond-false (k == n) v 0 (ne_eqb k n (λ e. absurd (omega (arith, e, l)))),
          cond-true
              (nat_lt k (suc n)) v 0 (lt-ltb k (suc n) (omega (arith, l))),
        )
        | inr m ↦ omega (
          arith,
          cond-false (nat_lt k n) v 0 (le-ltb k n (omega (arith, m))),
          cond-false (k == n) v 0
              (ne_eqb k n (λ e. absurd (omega (arith, e, m)))),
          cond-false (nat_lt k (suc n)) v 0 (le-ltb k (suc n) (omega (arith, m))),
        )
      ]
    ]

-- a nonzero sum has a member that counts
pub sum_some : {X : Type 0} (f : X → ℕ) (xs : List X) → (sum_by f xs ≡ 0) ⊎ ((x : X) × Contains xs x × (0 < f x))
sum_some f [] = inl refl
sum_some f (x ∷ xs) = elim (cases_lt 0 (f x)) [
  | inl some ↦ inr (x, contains_here x xs, some)
  | inr none ↦ elim (sum_some f xs) [
    | inl z ↦ inl (omega (arith, sum_by-cons f x xs, z, none))
    | inr r ↦ inr (r.0, contains_later x xs r.0 r.1, r.2)
  ]
]

-- the terms of two different members add up to at most the sum
pub sum_two : {X : Type 0} (f : X → ℕ) (xs : List X) (i j : ℕ) (e : X) → i < j → j < length xs → f (get_or xs i e) + f (get_or xs j e) ≤ sum_by f xs
sum_two f xs i j e less inside =
    let first = get_or-le-sum_by f (take j xs) i e (omega (arith, length-take-le j xs (omega (arith, inside)), less)) in
    let same : f (get_or (take j xs) i e) ≡ f (get_or xs i e) = ap f (get_or-take j xs i e less) in
    omega (arith, first, same, sum_by_more_le f xs j e inside)

-- a sum over a concatenation, compared list by list
pub sum_le_below : {X Y : Type 0} (f : X → ℕ) (g : Y → ℕ) (a : ℕ → List X) (b : ℕ → List Y) (n : ℕ) → ((k : ℕ) → sum_by f (a k) ≤ sum_by g (b k)) →
    sum_by f (each_below a n) ≤ sum_by g (each_below b n)
sum_le_below f g a b zero each = omega arith
sum_le_below f g a b (suc n) each = omega (arith, sum_below f a n, sum_below g b n, each n, sum_le_below f g a b n each)
