-- Concatenated lists, and what filters keep of them.
use Rattle.std.proofs.Common.{◌≡◌, ℕ, zero, suc, ◌<◌, ◌∷◌, [], ◌++◌, List, Bool, true, false, ◌&&◌, map, filter, inl, inr, sym, ap, ap₂, fold, ◌∙◌, subst}
use Rattle.std.proofs.Common.{arith, refl, append_assoc, append-nil, Contains, ◌+◌, ◌-◌, length, get_or, length-append, add-suc, add-zero}
use Rattle.std.proofs.lemmas.Bool.{cases_Bool, cases_lt, cases_order, cond-true, cond-false}
use Rattle.std.proofs.lemmas.List.{get_or-append_right, get_or_append_left, map-append}
use Rattle.std.proofs.lemmas.List.Elements.{Contains-append_left, Contains-append_right, Contains-append_cases, filter-append}
use Rattle.cqf_lists.specs.Lists.{each_below}
use Rattle.cqf_lists.proofs.Members.{contains_here, contains_later, contains_none}

-- a member of one of the lists is a member of their concatenation
pub contains_below : {X : Type 0} (f : ℕ → List X) (n k : ℕ) (x : X) → k < n → Contains (f k) x → Contains (each_below f n) x
contains_below f zero k x l c = absurd (omega (arith, l))
contains_below f (suc n) k x l c = elim (cases_order k n) [
  | inl e ↦ Contains-append_right (each_below f n) (f n) x (subst (λ z. Contains (f z) x) e c)
  | inr o ↦ elim o [
    | inl less ↦ Contains-append_left (each_below f n) (f n) x (contains_below f n k x less c)
    | inr more ↦ absurd (omega (arith, more, l))
  ]
]

-- each member of the concatenation is a member of one of the lists
pub contains_from_below : {X : Type 0} (f : ℕ → List X) (n : ℕ) (x : X) → Contains (each_below f n) x → (k : ℕ) × (k < n) × Contains (f k) x
contains_from_below f zero x c = absurd (contains_none x c)
contains_from_below f (suc n) x c = elim (Contains-append_cases (each_below f n) (f n) x c) [
  | inl h ↦ let r = contains_from_below f n x h in (r.0, omega (arith, r.1), r.2)
  | inr h ↦ (n, omega arith, h)
]

-- if the lists are pairwise equal, their concatenations are equal
pub same_below : {X : Type 0} (f g : ℕ → List X) (n : ℕ) → ((k : ℕ) → k < n → f k ≡ g k) → each_below f n ≡ each_below g n
same_below f g zero same = refl
same_below f g (suc n) same = ap (λ z. z ++ f n) (same_below f g n (λ k l. same k (omega (arith, l)))) ∙ ap (λ z. each_below g n ++ z) (same n (omega arith))

-- the concatenation of empty lists is empty
pub none_below : {X : Type 0} (f : ℕ → List X) (n : ℕ) → ((k : ℕ) → k < n → f k ≡ []) → each_below f n ≡ []
none_below f zero none = refl
none_below f (suc n) none = ap (λ z. z ++ f n) (none_below f n (λ k l. none k (omega (arith, l)))) ∙ none n (omega arith)

-- filtering a concatenation is concatenating the filtered lists
pub filter_below : {X : Type 0} (p : X → Bool) (f : ℕ → List X) (n : ℕ) → filter p (each_below f n) ≡ each_below (λ k. filter p (f k)) n
filter_below p f zero = refl
filter_below p f (suc n) = filter-append p (each_below f n) (f n) ∙ ap (λ z. z ++ filter p (f n)) (filter_below p f n)

-- if no element passes, the filter keeps none
pub filter_none : {X : Type 0} (p : X → Bool) (xs : List X) → ((x : X) → Contains xs x → p x ≡ false) → filter p xs ≡ []
filter_none p [] no_one = refl
filter_none p (x ∷ xs) no_one = cond-false (p x) (x ∷ filter p xs) (filter p xs) (no_one x (contains_here x xs))
    ∙ filter_none p xs (λ y c. no_one y (contains_later x xs y c))

-- if each element passes, the filter keeps all
pub filter_each : {X : Type 0} (p : X → Bool) (xs : List X) → ((x : X) → Contains xs x → p x ≡ true) → filter p xs ≡ xs
filter_each p [] each = refl
filter_each p (x ∷ xs) each = cond-true (p x) (x ∷ filter p xs) (filter p xs) (each x (contains_here x xs))
    ∙ ap (λ z. x ∷ z) (filter_each p xs (λ y c. each y (contains_later x xs y c)))

-- the step for one element of a filter of a filter
filter_twice_step : {X : Type 0} (p q : X → Bool) (x : X) (xs : List X) (a b : Bool) → p x ≡ a → q x ≡ b →
    filter p (filter q xs) ≡ filter (λ x. p x && q x) xs → filter p (filter q (x ∷ xs)) ≡ filter (λ x. p x && q x) (x ∷ xs)
filter_twice_step p q x xs true true pe qe rest =
    ap (filter p) (cond-true (q x) (x ∷ filter q xs) (filter q xs) qe)
    ∙ cond-true (p x) (x ∷ filter p (filter q xs)) (filter p (filter q xs)) pe
    ∙ ap (λ z. x ∷ z) rest
    ∙ sym (cond-true (p x && q x) (x ∷ filter (λ x. p x && q x) xs) (filter (λ x. p x && q x) xs) (ap₂ (λ a b. a && b) pe qe))
filter_twice_step p q x xs false true pe qe rest =
    ap (filter p) (cond-true (q x) (x ∷ filter q xs) (filter q xs) qe)
    ∙ cond-false (p x) (x ∷ filter p (filter q xs)) (filter p (filter q xs)) pe
    ∙ rest
    ∙ sym (cond-false (p x && q x) (x ∷ filter (λ x. p x && q x) xs) (filter (λ x. p x && q x) xs) (ap₂ (λ a b. a && b) pe qe))
filter_twice_step p q x xs true false pe qe rest =
    ap (filter p) (cond-false (q x) (x ∷ filter q xs) (filter q xs) qe)
    ∙ rest
    ∙ sym (cond-false (p x && q x) (x ∷ filter (λ x. p x && q x) xs) (filter (λ x. p x && q x) xs) (ap₂ (λ a b. a && b) pe qe))
filter_twice_step p q x xs false false pe qe rest =
    ap (filter p) (cond-false (q x) (x ∷ filter q xs) (filter q xs) qe)
    ∙ rest
    ∙ sym (cond-false (p x && q x) (x ∷ filter (λ x. p x && q x) xs) (filter (λ x. p x && q x) xs) (ap₂ (λ a b. a && b) pe qe))

-- a filter of a filter keeps what passes both tests
pub filter_twice : {X : Type 0} (p q : X → Bool) (xs : List X) → filter p (filter q xs) ≡ filter (λ x. p x && q x) xs
filter_twice p q [] = refl
filter_twice p q (x ∷ xs) = filter_twice_step p q x xs (p x) (q x) refl refl (filter_twice p q xs)

-- a fold ignores elements that change nothing
pub fold_filter : {X A : Type 0} (step : A → X → A) (p : X → Bool) (a : A) (xs : List X) → ((b : A) (x : X) → Contains xs x → p x ≡ false → step b x ≡ b) →
    fold step a xs ≡ fold step a (filter p xs)
fold_filter step p a [] idle = refl
fold_filter step p a (x ∷ xs) idle = elim (cases_Bool (p x)) [
  | inl t ↦ fold_filter step p (step a x) xs (λ b y c. idle b y (contains_later x xs y c))
      ∙ ap (fold step a) (sym (cond-true (p x) (x ∷ filter p xs) (filter p xs) t))
  | inr f ↦
      ap (λ z. fold step z xs) (idle a x (contains_here x xs) f)
      ∙ fold_filter step p a xs (λ b y c. idle b y (contains_later x xs y c))
      ∙ ap (fold step a) (sym (cond-false (p x) (x ∷ filter p xs) (filter p xs) f))
]

-- folds by steps that agree on each member are equal
pub fold_same : {X A : Type 0} (one two : A → X → A) (a : A) (xs : List X) → ((b : A) (x : X) → Contains xs x → one b x ≡ two b x) →
    fold one a xs ≡ fold two a xs
fold_same one two a [] same = refl
fold_same one two a (x ∷ xs) same = ap (λ z. fold one z xs) (same a x (contains_here x xs))
    ∙ fold_same one two (two a x) xs (λ b y c. same b y (contains_later x xs y c))

-- mapping a concatenation is concatenating the mapped lists
pub map_below : {X Y : Type 0} (g : X → Y) (f : ℕ → List X) (n : ℕ) → map g (each_below f n) ≡ each_below (λ k. map g (f k)) n
map_below g f zero = refl
map_below g f (suc n) = map-append g (each_below f n) (f n) ∙ ap (λ z. z ++ map g (f n)) (map_below g f n)

-- a concatenation is the lists before one list, that list, and the lists after it
pub parted_below : {X : Type 0} (f : ℕ → List X) (k n : ℕ) → k < n → (after : List X) × (each_below f n ≡ each_below f k ++ (f k ++ after))
parted_below f k zero l = absurd (omega (arith, l))
parted_below f k (suc n) l = elim (cases_order k n) [
  | inl e ↦ ([], ap (λ z. each_below f z ++ f z) (sym e) ∙ ap (λ z. each_below f k ++ z) (sym (append-nil (f k))))
  | inr o ↦ elim o [
    | inl less ↦
        let r = parted_below f k n less in
        (r.0 ++ f n, ap (λ z. z ++ f n) r.1 ∙ append_assoc (each_below f k) (f k ++ r.0) (f n) ∙ ap (λ z. each_below f k ++ z) (append_assoc (f k) r.0 (f n)))
    | inr more ↦ absurd (omega (arith, more, l))
  ]
]

-- a concatenation splits at a number
pub below_plus : {X : Type 0} (f : ℕ → List X) (m n : ℕ) → each_below f (m + n) ≡ each_below f m ++ each_below (λ k. f (m + k)) n
below_plus f m zero = ap (each_below f) (add-zero m) ∙ sym (append-nil (each_below f m))
below_plus f m (suc n) =
    ap (each_below f) (add-suc m n)
    ∙ ap (λ z. z ++ f (m + n)) (below_plus f m n)
    ∙ append_assoc (each_below f m) (each_below (λ k. f (m + k)) n) (f (m + n))

-- the first list, followed by the others
pub first_below : {X : Type 0} (f : ℕ → List X) (n : ℕ) → each_below f (suc n) ≡ f 0 ++ each_below (λ k. f (k + 1)) n
first_below f zero = sym (append-nil (f 0))
first_below f (suc n) =
    let next : f (suc n) ≡ f (n + 1) = let e : suc n ≡ n + 1 = omega arith in ap f e in
    ap (λ z. z ++ f (suc n)) (first_below f n)
    ∙ append_assoc (f 0) (each_below (λ k. f (k + 1)) n) (f (suc n))
    ∙ ap (λ z. f 0 ++ (each_below (λ k. f (k + 1)) n ++ z)) next

-- if each list has one element, there are as many elements as numbers
pub length-singles : {A : Type 0} (f : ℕ → A) (n : ℕ) → length (each_below (λ k. f k ∷ []) n) ≡ n
length-singles f zero = refl
length-singles f (suc n) = length-append (each_below (λ k. f k ∷ []) n) (f n ∷ []) ∙ grown (length (each_below (λ k. f k ∷ []) n)) (length-singles f n)
  where
    -- one more than a number is its successor
    grown : (m : ℕ) → m ≡ n → m + 1 ≡ suc n
    grown m e = omega (arith, e)

-- and the element of each number is at the number's index
pub get_or-singles : {A : Type 0} (f : ℕ → A) (n k : ℕ) (d : A) → k < n → get_or (each_below (λ k. f k ∷ []) n) k d ≡ f k
get_or-singles f zero k d h = absurd (omega (arith, h))
get_or-singles f (suc n) k d h =
    elim (cases_lt k n) [
      | inl l ↦ get_or_append_left (each_below (λ k. f k ∷ []) n) (f n ∷ []) d k (omega (arith, l, length-singles f n)) ∙ get_or-singles f n k d l
      | inr g ↦ get_or-append_right (each_below (λ k. f k ∷ []) n) (f n ∷ []) n k d (length-singles f n) g ∙ at_last k (omega (arith, g, h))
    ]
  where
    -- the last element is at the last index
    at_last : (m : ℕ) → m ≡ n → get_or (f n ∷ []) (m - n) d ≡ f m
    at_last m e = let z : m - n ≡ 0 = omega (arith, e) in ap (λ (i : ℕ). get_or (f n ∷ []) i d) z ∙ ap f (sym e)
