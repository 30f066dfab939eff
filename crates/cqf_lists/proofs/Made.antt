-- Lists made from the members of another list.
use Rattle.std.proofs.Common.{◌≡◌, ◌∷◌, [], ◌++◌, List, Bool, true, false, cond, map, filter, flat_map, inl, inr, sym, ap, ap₂, ◌∙◌, refl, AllPairs, Contains}
use Rattle.std.proofs.lemmas.Bool.{cases_Bool, cond-true, cond-false}
use Rattle.std.proofs.lemmas.List.Elements.{filter-append}
use Rattle.cqf_lists.proofs.Members.{contains_from_flat, contains_here, contains_later, contains_none}
use Rattle.cqf_lists.proofs.EachBelow.{filter_each, filter_none}
use Rattle.cqf_lists.proofs.Pairs.{pairs_append, pairs_head, pairs_none, pairs_tail}

-- a member of a conditional list: the condition holds, and it is a member of the list
pub contains_if_there : {X : Type 0} (b : Bool) (xs : List X) (x : X) → Contains (cond b xs []) x → (b ≡ true) × Contains xs x
contains_if_there true xs x c = (refl, c)
contains_if_there false xs x c = absurd (contains_none x c)

-- a member of a conditional list is a member of the list
pub contains_if : {X : Type 0} (b : Bool) (xs : List X) (x : X) → Contains (cond b xs []) x → Contains xs x
contains_if b xs x c = (contains_if_there b xs x c).1

-- if the condition holds, a conditional list has the list's members
pub if_contains : {X : Type 0} (b : Bool) (xs : List X) (x : X) → b ≡ true → Contains xs x → Contains (cond b xs []) x
if_contains true xs x e c = c
if_contains false xs x e c = absurd cc

-- mapping a conditional list
pub map_if : {X Y : Type 0} (f : X → Y) (b : Bool) (xs : List X) → map f (cond b xs []) ≡ cond b (map f xs) []
map_if f true xs = refl
map_if f false xs = refl

-- two functions that agree on the members make the same list
pub map_same : {X Y : Type 0} (f g : X → Y) (xs : List X) → ((x : X) → Contains xs x → f x ≡ g x) → map f xs ≡ map g xs
map_same f g [] same = refl
map_same {X} {Y} f g (x ∷ xs) same =
    ap (λ (y : Y). y ∷ map f xs) (same x (contains_here x xs)) ∙ ap (λ (ys : List Y). g x ∷ ys) (map_same f g xs (λ z c. same z (contains_later x xs z c)))

-- and so do two functions that give lists
pub flat_map_same : {X Y : Type 0} (f g : X → List Y) (xs : List X) → ((x : X) → Contains xs x → f x ≡ g x) → flat_map f xs ≡ flat_map g xs
flat_map_same f g [] same = refl
flat_map_same {X} {Y} f g (x ∷ xs) same =
    ap (λ (ys : List Y). ys ++ flat_map f xs) (same x (contains_here x xs))
    ∙ ap (λ (ys : List Y). g x ++ ys) (flat_map_same f g xs (λ z c. same z (contains_later x xs z c)))

-- filtering the results is taking the results of the filtered list, if the two tests agree
pub filter_made : {X Y : Type 0} (f : X → List Y) (p : X → Bool) (q : Y → Bool) (xs : List X) →
    ((x : X) (y : Y) → Contains xs x → Contains (f x) y → q y ≡ p x) → filter q (flat_map f xs) ≡ flat_map f (filter p xs)
filter_made f p q [] same = refl
filter_made {X} {Y} f p q (x ∷ xs) same =
    let rest : filter q (flat_map f xs) ≡ flat_map f (filter p xs) = filter_made f p q xs (λ z y h. same z y (contains_later x xs z h)) in
    let split = filter-append q (f x) (flat_map f xs) in
    let here = λ (y : Y) (h : Contains (f x) y). same x y (contains_here x xs) h in
    elim (cases_Bool (p x)) [
      | inl hit ↦
          let all : filter q (f x) ≡ f x = filter_each q (f x) (λ y h. here y h ∙ hit) in
          split ∙ ap₂ (λ (ys zs : List Y). ys ++ zs) all rest ∙ ap (flat_map f) (sym (cond-true (p x) (x ∷ filter p xs) (filter p xs) hit))
      | inr miss ↦
          let none : filter q (f x) ≡ [] = filter_none q (f x) (λ y h. here y h ∙ miss) in
          split ∙ ap₂ (λ (ys zs : List Y). ys ++ zs) none rest ∙ ap (flat_map f) (sym (cond-false (p x) (x ∷ filter p xs) (filter p xs) miss))
    ]

-- the pairs of the results, from the pairs of the members and of each member's results
pub pairs_of_flat : {X Y : Type 0} (f : X → List Y) (S : X → X → Type 0) (R : Y → Y → Type 0) (xs : List X) → ((x : X) → Contains xs x → AllPairs R (f x)) →
    ((x z : X) (u v : Y) → Contains xs x → Contains xs z → S x z → Contains (f x) u → Contains (f z) v → R u v) → AllPairs S xs → AllPairs R (flat_map f xs)
pairs_of_flat f S R [] each across pairs = pairs_none R
pairs_of_flat f S R (x ∷ xs) each across pairs =
    pairs_append R (f x) (flat_map f xs) (each x (contains_here x xs))
    (pairs_of_flat f S R xs (λ z c. each z (contains_later x xs z c)) (λ y z u v c e. across y z u v (contains_later x xs y c) (contains_later x xs z e))
    (pairs_tail S x xs pairs))
    (λ u v c e. let w = contains_from_flat f xs v e in
    across x w.0 u v (contains_here x xs) (contains_later x xs w.0 w.1) (pairs_head S x xs w.0 pairs w.1) c w.2)
