-- Relations between each earlier and each later element of a list.
use Rattle.std.proofs.Common.{◌≡◌, ℕ, zero, suc, ◌<◌, ◌≤◌, ◌∷◌, [], ◌++◌, List, length, get_or, map, ◌-◌, length-append, inl, inr, sym, ap, ◌∙◌, subst, arith}
use Rattle.std.proofs.Common.{refl, AllPairs, Contains, Bool, true, false, cond, filter, ap₂}
use Rattle.std.proofs.lemmas.Bool.{cases_lt, cases_order, cases_Bool, cond-true, cond-false, false≢true}
use Rattle.std.proofs.lemmas.List.{get_or_append_left, get_or-append_right, get_or-map, get_or_default, length-map}
use Rattle.std.proofs.lemmas.List.Elements.{Contains-get_or, Contains-append_right}
use Rattle.cqf_lists.specs.Lists.{each_below}
use Rattle.cqf_lists.proofs.Members.{contains_cases, contains_filter, contains_from_filter, contains_from_map, contains_here, contains_later, contains_none}
use Rattle.cqf_lists.proofs.Members.{contains_one}
use Rattle.cqf_lists.proofs.EachBelow.{contains_from_below}

-- an empty list has no pairs
pub pairs_none : {X : Type 0} (R : X → X → Type 0) → AllPairs R []
pairs_none R i j d l inside = absurd (omega (arith, inside))

-- the pairs of a concatenation of two lists are those of each list, and those across
pub pairs_append : {X : Type 0} (R : X → X → Type 0) (xs ys : List X) → AllPairs R xs → AllPairs R ys → ((x y : X) → Contains xs x → Contains ys y → R x y) →
    AllPairs R (xs ++ ys)
pairs_append {X} R xs ys first second across i j d l inside = elim (cases_lt j (length xs)) [
  | inl j_in ↦ subst (λ z. R z (get_or (xs ++ ys) j d)) (sym (get_or_append_left xs ys d i (omega (arith, l, j_in))))
      (subst (λ z. R (get_or xs i d) z) (sym (get_or_append_left xs ys d j j_in)) (first i j d l j_in))
  | inr j_out ↦ elim (cases_lt i (length xs)) [
    | inl i_in ↦ subst (λ z. R z (get_or (xs ++ ys) j d)) (sym (get_or_append_left xs ys d i i_in))
        (subst (λ z. R (get_or xs i d) z) (sym (get_or-append_right xs ys (length xs) j d refl j_out))
        (across (get_or xs i d) (get_or ys (j - length xs) d) (Contains-get_or xs i d i_in) (Contains-get_or ys (j - length xs) d (following j j_out inside))))
    | inr i_out ↦ subst (λ z. R z (get_or (xs ++ ys) j d)) (sym (get_or-append_right xs ys (length xs) i d refl i_out))
        (subst (λ z. R (get_or ys (i - length xs) d) z) (sym (get_or-append_right xs ys (length xs) j d refl j_out))
        (second (i - length xs) (j - length xs) d (omega (arith, l, i_out)) (following j j_out inside)))
  ]
]
  where
    -- an index after the first list is one in the second
    following : (j : ℕ) → length xs ≤ j → j < length (xs ++ ys) → j - length xs < length ys
    following j from upto = omega (arith, from, upto, length-append xs ys)

-- the pairs of a concatenation of many lists
pub pairs_below : {X : Type 0} (R : X → X → Type 0) (f : ℕ → List X) (n : ℕ) → ((k : ℕ) → k < n → AllPairs R (f k)) →
    ((j k : ℕ) (x y : X) → j < k → k < n → Contains (f j) x → Contains (f k) y → R x y) → AllPairs R (each_below f n)
pairs_below R f zero each across = pairs_none R
pairs_below {X} R f (suc n) each across =
    pairs_append R (each_below f n) (f n)
    (pairs_below R f n (λ k l. each k (omega (arith, l))) (λ j k x y l m. across j k x y l (omega (arith, m))))
    (each n (omega arith))
    (λ x y c e. let r = contains_from_below f n x c in across r.0 n x y r.1 (omega arith) r.2 e)

-- the first element is related to each later one
pub pairs_head : {X : Type 0} (R : X → X → Type 0) (x : X) (xs : List X) (y : X) → AllPairs R (x ∷ xs) → Contains xs y → R x y
pairs_head R x xs y all c = subst (λ z. R x z) c.2 (all zero (suc c.0) y (omega arith) (omega (arith, c.1)))

-- the pairs of the later elements
pub pairs_tail : {X : Type 0} (R : X → X → Type 0) (x : X) (xs : List X) → AllPairs R (x ∷ xs) → AllPairs R xs
pairs_tail R x xs all i j d l inside = all (suc i) (suc j) d (omega (arith, l)) (omega (arith, inside))

-- one element has no pairs
pub pairs_one : {X : Type 0} (R : X → X → Type 0) (x : X) → AllPairs R (x ∷ [])
pairs_one R x i j d l inside = absurd (omega (arith, l, inside))

-- one more element in front
pub pairs_cons : {X : Type 0} (R : X → X → Type 0) (x : X) (xs : List X) → ((y : X) → Contains xs y → R x y) → AllPairs R xs → AllPairs R (x ∷ xs)
pairs_cons R x xs first all =
    pairs_append R (x ∷ []) xs (pairs_one R x) all
    (λ a b ca cb. subst (λ z. R z b) (contains_one x a ca) (first b cb))

-- the pairs of a mapped list
pub pairs_map : {X Y : Type 0} (R : Y → Y → Type 0) (f : X → Y) (xs : List X) → AllPairs (λ (x z : X). R (f x) (f z)) xs → AllPairs R (map f xs)
pairs_map R f [] t = pairs_none R
pairs_map {X} {Y} R f (x ∷ xs) t =
    let both : X → X → Type 0 = λ (a b : X). R (f a) (f b) in
    pairs_cons R (f x) (map f xs)
    (λ y c. let w = contains_from_map f xs y c in subst (R (f x)) w.2 (pairs_head both x xs w.0 t w.1))
    (pairs_map R f xs (pairs_tail both x xs t))

-- the pairs of a list, from those of the mapped list
pub pairs_from_map : {X Y : Type 0} (R : Y → Y → Type 0) (f : X → Y) (xs : List X) → AllPairs R (map f xs) → AllPairs (λ a b. R (f a) (f b)) xs
pairs_from_map R f xs all i j d l inside =
    subst (λ z. R z (f (get_or xs j d))) (get_or-map f xs i d (f d) (omega (arith, l, inside)))
    (subst (λ z. R (get_or (map f xs) i (f d)) z) (get_or-map f xs j d (f d) inside) (all i j (f d) l (omega (arith, inside, length-map xs f))))

-- the pairs of members, if the relation holds between all members in either order
pub pairs_members : {X : Type 0} (R : X → X → Type 0) (xs : List X) → ((x y : X) → Contains xs x → Contains xs y → R x y) → AllPairs R xs
pairs_members R [] each = pairs_none R
pairs_members {X} R (x ∷ xs) each =
    pairs_append R (x ∷ []) xs (pairs_one R x) (pairs_members R xs (λ a b ca cb. each a b (contains_later x xs a ca) (contains_later x xs b cb)))
    (λ a b ca cb. each a b (subst (λ z. Contains (x ∷ xs) z) (contains_one x a ca) (contains_here x xs)) (contains_later x xs b cb))

-- two members that aren't related in either order are equal
pub one_of_pairs : {X : Type 0} (R : X → X → Type 0) (xs : List X) (a b : X) → AllPairs R xs → Contains xs a → Contains xs b → (R a b → ⊥) → (R b a → ⊥) → a ≡ b
one_of_pairs R xs a b all ina inb not_first not_second = elim (cases_order ina.0 inb.0) [
  | inl e ↦ sym ina.2 ∙ ap (λ z. get_or xs z a) e ∙ get_or_default xs inb.0 a b inb.1 ∙ inb.2
  | inr o ↦ elim o [
    | inl less ↦ absurd (not_first
        (subst (λ z. R z b) ina.2 (subst (λ z. R (get_or xs ina.0 a) z) (get_or_default xs inb.0 a b inb.1 ∙ inb.2) (all ina.0 inb.0 a less inb.1))))
    | inr more ↦ absurd (not_second
        (subst (λ z. R z a) inb.2 (subst (λ z. R (get_or xs inb.0 b) z) (get_or_default xs ina.0 b a ina.1 ∙ ina.2) (all inb.0 ina.0 b more ina.1))))
  ]
]

-- an element of the first list is related to each element of the second
pub pairs_across : {X : Type 0} (R : X → X → Type 0) (xs ys : List X) (a b : X) → AllPairs R (xs ++ ys) → Contains xs a → Contains ys b → R a b
pairs_across R [] ys a b all first second = absurd (contains_none a first)
pairs_across R (x ∷ xs) ys a b all first second = elim (contains_cases x xs a first) [
  | inl e ↦ subst (λ z. R z b) e (pairs_head R x (xs ++ ys) b all (Contains-append_right xs ys b second))
  | inr h ↦ pairs_across R xs ys a b (pairs_tail R x (xs ++ ys) all) h second
]

-- the pairs of the second of two concatenated lists
pub pairs_second : {X : Type 0} (R : X → X → Type 0) (xs ys : List X) → AllPairs R (xs ++ ys) → AllPairs R ys
pairs_second R [] ys all = all
pairs_second R (x ∷ xs) ys all = pairs_second R xs ys (pairs_tail R x (xs ++ ys) all)

-- a relation between the elements that a filter keeps, as one between the passing elements of the whole list
pub pairs_of_kept : {X : Type 0} (R : X → X → Type 0) (p : X → Bool) (xs : List X) → AllPairs R (filter p xs) →
    AllPairs (λ a b. p a ≡ true → p b ≡ true → R a b) xs
pairs_of_kept R p [] all = pairs_none (λ a b. p a ≡ true → p b ≡ true → R a b)
pairs_of_kept R p (x ∷ xs) all = elim (cases_Bool (p x)) [
  | inl t ↦
      let kept = subst (λ z. AllPairs R z) (cond-true (p x) (x ∷ filter p xs) (filter p xs) t) all in
      pairs_cons (λ a b. p a ≡ true → p b ≡ true → R a b) x xs (λ y c px py. pairs_head R x (filter p xs) y kept (contains_filter p xs y c py))
      (pairs_of_kept R p xs (pairs_tail R x (filter p xs) kept))
  | inr f ↦
      pairs_cons (λ a b. p a ≡ true → p b ≡ true → R a b) x xs (λ y c px py. absurd (false≢true (sym f ∙ px)))
      (pairs_of_kept R p xs (subst (λ z. AllPairs R z) (cond-false (p x) (x ∷ filter p xs) (filter p xs) f) all))
]

-- if no element is repeated, two splits of a list at the same element are the same
pub one_parting : {X : Type 0} (R : X → X → Type 0) (z : X) (xs us ys vs : List X) → AllPairs R (xs ++ (z ∷ ys)) → (R z z → ⊥) →
    xs ++ (z ∷ ys) ≡ us ++ (z ∷ vs) → xs ≡ us
one_parting R z [] [] ys vs all once e = refl
one_parting R z [] (u ∷ us) ys vs all once e =
    let rest : ys ≡ us ++ (z ∷ vs) = cc in
    absurd (once (pairs_head R z ys z all (subst (λ w. Contains w z) (sym rest) (Contains-append_right us (z ∷ vs) z (contains_here z vs)))))
one_parting R z (x ∷ xs) [] ys vs all once e =
    let same : x ≡ z = cc in
    absurd (once (subst (λ w. R w z) same (pairs_head R x (xs ++ (z ∷ ys)) z all (Contains-append_right xs (z ∷ ys) z (contains_here z ys)))))
one_parting R z (x ∷ xs) (u ∷ us) ys vs all once e =
    let same : x ≡ u = cc in
    let rest : xs ++ (z ∷ ys) ≡ us ++ (z ∷ vs) = cc in
    ap₂ (λ a b. a ∷ b) same (one_parting R z xs us ys vs (pairs_tail R x (xs ++ (z ∷ ys)) all) once rest)

-- the pairs with one more element in front on a condition
kept_pairs : {X : Type 0} (R : X → X → Type 0) (y : X) (ys : List X) (b : Bool) → (b ≡ true → (z : X) → Contains ys z → R y z) → AllPairs R ys →
    AllPairs R (cond b (y ∷ ys) ys)
kept_pairs R y ys true h t = pairs_cons R y ys (h refl) t
kept_pairs R y ys false h t = t

-- the pairs of what a filter keeps of a mapped list
pub pairs_kept : {X Y : Type 0} (R : Y → Y → Type 0) (f : X → Y) (p : Y → Bool) (xs : List X) →
    AllPairs (λ (x z : X). p (f x) ≡ true → p (f z) ≡ true → R (f x) (f z)) xs → AllPairs R (filter p (map f xs))
pairs_kept R f p [] h = pairs_none R
pairs_kept {X} {Y} R f p (x ∷ xs) h =
    let both : X → X → Type 0 = λ (a b : X). p (f a) ≡ true → p (f b) ≡ true → R (f a) (f b) in
    kept_pairs R (f x) (filter p (map f xs)) (p (f x)) (λ t y k.
    let m = contains_from_filter p (map f xs) y k in
    let o = contains_from_map f xs y m.0 in
    let r : R (f x) (f o.0) = pairs_head both x xs o.0 h o.1 t (ap p o.2 ∙ m.1) in
    subst (R (f x)) o.2 r) (pairs_kept R f p xs (pairs_tail both x xs h))

-- the pairs with one more element at the end
pub pairs_push : {X : Type 0} (R : X → X → Type 0) (xs : List X) (y : X) → AllPairs R xs → ((x : X) → Contains xs x → R x y) → AllPairs R (xs ++ y ∷ [])
pairs_push R xs y all last =
    pairs_append R xs (y ∷ []) all (pairs_one R y)
    (λ x z first second. subst (λ w. R x w) (contains_one y z second) (last x first))

-- the pairs of a weaker relation
pub pairs_weaker : {X : Type 0} (R S : X → X → Type 0) (xs : List X) → ((x z : X) → Contains xs x → Contains xs z → R x z → S x z) → AllPairs R xs →
    AllPairs S xs
pairs_weaker R S xs weaker all i j d l inside =
    weaker (get_or xs i d) (get_or xs j d) (Contains-get_or xs i d (omega (arith, l, inside))) (Contains-get_or xs j d inside) (all i j d l inside)

-- two lists in one strict order with the same members have the same first element
same_head : {X : Type 0} (R : X → X → Type 0) → ((x y : X) → R x y → R y x → ⊥) → (x y : X) (xs ys : List X) → AllPairs R (x ∷ xs) → AllPairs R (y ∷ ys) →
    Contains (y ∷ ys) x → Contains (x ∷ xs) y → x ≡ y
same_head R one_way x y xs ys a b h k =
    elim (contains_cases y ys x h) [
      | inl e ↦ sym e
      | inr l ↦ elim (contains_cases x xs y k) [
        | inl e ↦ e
        | inr m ↦ absurd (one_way x y (pairs_head R x xs y a m) (pairs_head R y ys x b l))
      ]
    ]

-- a member of the rest of one list is a member of the rest of the other
rest_in : {X : Type 0} (R : X → X → Type 0) → ((x y : X) → R x y → R y x → ⊥) → (x y : X) (xs ys : List X) → x ≡ y → AllPairs R (x ∷ xs) →
    ((z : X) → Contains (x ∷ xs) z → Contains (y ∷ ys) z) → (z : X) → Contains xs z → Contains ys z
rest_in R one_way x y xs ys e a to z h =
    elim (contains_cases y ys z (to z (contains_later x xs z h))) [
      | inl f ↦ (let r : R x x = subst (R x) (sym (e ∙ f)) (pairs_head R x xs z a h) in absurd (one_way x x r r))
      | inr k ↦ k
    ]

-- two lists in one strict order with the same members are equal
pub same_ordered : {X : Type 0} (R : X → X → Type 0) → ((x y : X) → R x y → R y x → ⊥) → (xs ys : List X) → AllPairs R xs → AllPairs R ys →
    ((z : X) → Contains xs z → Contains ys z) → ((z : X) → Contains ys z → Contains xs z) → xs ≡ ys
same_ordered R one_way [] [] a b to from = refl
same_ordered R one_way [] (y ∷ ys) a b to from = absurd (contains_none y (from y (contains_here y ys)))
same_ordered R one_way (x ∷ xs) [] a b to from = absurd (contains_none x (to x (contains_here x xs)))
same_ordered {X} R one_way (x ∷ xs) (y ∷ ys) a b to from =
    let e : x ≡ y = same_head R one_way x y xs ys a b (to x (contains_here x xs)) (from y (contains_here y ys)) in
    let rest : xs ≡ ys =
    same_ordered R one_way xs ys (pairs_tail R x xs a) (pairs_tail R y ys b) (rest_in R one_way x y xs ys e a to)
    (rest_in R one_way y x ys xs (sym e) b from) in
    ap (λ (z : X). z ∷ xs) e ∙ ap (λ (zs : List X). y ∷ zs) rest

-- the pairs of a conditional list
pub pairs_if : {X : Type 0} (R : X → X → Type 0) (b : Bool) (xs : List X) → (b ≡ true → AllPairs R xs) → AllPairs R (cond b xs [])
pairs_if R true xs all = all refl
pairs_if R false xs all = pairs_none R
