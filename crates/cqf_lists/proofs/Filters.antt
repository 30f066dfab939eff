-- Two tests on one list, and a test on a mapped list.
use Rattle.std.proofs.Common.{◌≡◌, ◌∷◌, [], List, Bool, true, false, cond, map, filter, sym, ap, ◌∙◌, refl, Contains}
use Rattle.cqf_lists.proofs.Members.{contains_here, contains_later}

-- two tests that agree on the members keep the same elements
pub filter_alike : {X : Type 0} (p q : X → Bool) (xs : List X) → ((x : X) → Contains xs x → p x ≡ q x) → filter p xs ≡ filter q xs
filter_alike p q [] same = refl
filter_alike {X} p q (x ∷ xs) same =
    ap (λ (ys : List X). cond (p x) (x ∷ ys) ys) (filter_alike p q xs (λ y c. same y (contains_later x xs y c)))
    ∙ ap (λ (b : Bool). cond b (x ∷ filter q xs) (filter q xs)) (same x (contains_here x xs))

-- an element that fails the weaker test fails the stronger one
kept_or_not : {X : Type 0} (p : X → Bool) (x : X) (ys : List X) (b : Bool) → (p x ≡ true → b ≡ true) →
    cond (p x) (x ∷ filter p ys) (filter p ys) ≡ filter p (cond b (x ∷ ys) ys)
kept_or_not p x ys true h = refl
kept_or_not p x ys false h = ap (λ (c : Bool). cond c (x ∷ filter p ys) (filter p ys)) (never (p x) h)
  where
    -- a test fails if its passing makes false true
    never : (c : Bool) → (c ≡ true → false ≡ true) → c ≡ false
    never true h = sym (h refl)
    never false h = refl

-- filtering by a weaker test first changes nothing
pub filter_weaker : {X : Type 0} (p q : X → Bool) (xs : List X) → ((x : X) → Contains xs x → p x ≡ true → q x ≡ true) → filter p xs ≡ filter p (filter q xs)
filter_weaker p q [] h = refl
filter_weaker {X} p q (x ∷ xs) h =
    ap (λ (zs : List X). cond (p x) (x ∷ zs) zs) (filter_weaker p q xs (λ z c. h z (contains_later x xs z c)))
    ∙ kept_or_not p x (filter q xs) (q x) (h x (contains_here x xs))

-- one element, kept or not, before and after a function is applied
map_if : {X Y : Type 0} (f : X → Y) (x : X) (ys : List X) (b : Bool) → cond b (f x ∷ map f ys) (map f ys) ≡ map f (cond b (x ∷ ys) ys)
map_if f x ys true = refl
map_if f x ys false = refl

-- filtering a mapped list is mapping the filtered list
pub filter-map : {X Y : Type 0} (f : X → Y) (p : Y → Bool) (xs : List X) → filter p (map f xs) ≡ map f (filter (λ (x : X). p (f x)) xs)
filter-map f p [] = refl
filter-map {X} {Y} f p (x ∷ xs) =
    ap (λ (zs : List Y). cond (p (f x)) (f x ∷ zs) zs) (filter-map f p xs) ∙ map_if f x (filter (λ (z : X). p (f z)) xs) (p (f x))
