-- Whether some element of a list passes a test.
use Rattle.std.proofs.Common.{◌≡◌, ℕ, ◌+◌, Bool, true, false, cond, not, nat_lt, List, [], ◌∷◌, ◌&&◌, ◌||◌, Some, None, length, position, refl, ap, ◌∙◌, inl}
use Rattle.std.proofs.Common.{inr, arith, map}
use Rattle.std.specs.Prelude.{is_some, suc}
use Rattle.std.specs.Prelude.{filter}
use Rattle.std.specs.List.{Contains, list_any, prefix_len}
use Rattle.std.proofs.lemmas.Bool.{both_ways, cases_Bool, lt-ltb}
use Rattle.std.proofs.lemmas.Bool.Decides.{nat_tests}
use Rattle.cqf_lists.proofs.Members.{member_any}

-- some element of a mapped list passes the test if and only if some element's image does
pub list_any-map : {X Y : Type 0} (p : Y → Bool) (f : X → Y) (xs : List X) → list_any p (map f xs) ≡ list_any (λ x. p (f x)) xs
list_any-map p f [] = refl
list_any-map p f (x ∷ xs) = ap (λ (b : Bool). p (f x) || b) (list_any-map p f xs)

-- some element that a filter keeps passes the test if and only if some element passes both tests
pub list_any-filter : {X : Type 0} (p q : X → Bool) (xs : List X) → list_any p (filter q xs) ≡ list_any (λ x. q x && p x) xs
list_any-filter p q [] = refl
list_any-filter {X} p q (x ∷ xs) = kept (q x) ∙ ap (λ (b : Bool). (q x && p x) || b) (list_any-filter p q xs)
  where
    -- the first element counts if it is kept and passes
    kept : (b : Bool) → list_any p (cond b (x ∷ filter q xs) (filter q xs)) ≡ ((b && p x) || list_any p (filter q xs))
    kept true = refl
    kept false = refl

-- if no element passes, then a given member doesn't pass
pub none_member : {X : Type 0} (p : X → Bool) (xs : List X) (x : X) → list_any p xs ≡ false → Contains xs x → p x ≡ false
none_member p xs x e c = elim (cases_Bool (p x)) [
  | inl t ↦ absurd (both_ways (list_any p xs) e (member_any p xs x c t))
  | inr f ↦ f
]

-- adding one on both sides keeps the order
pub one_more : (n m : ℕ) → nat_lt (1 + n) (suc m) ≡ nat_lt n m
one_more n m = grind (arith, nat_tests)

-- fewer elements than all precede the first one that passes, if and only if some element passes
index_found : {X : Type 0} (p : X → Bool) (xs : List X) → nat_lt (prefix_len (λ x. not (p x)) xs) (length xs) ≡ list_any p xs
index_found p [] = refl
index_found {X} p (x ∷ xs) = by_test (p x) (index_found p xs)
  where
    -- the same with one more element in front, by that element's test
    by_test : (b : Bool) → nat_lt (prefix_len (λ z. not (p z)) xs) (length xs) ≡ list_any p xs →
        nat_lt (cond (not b) (1 + prefix_len (λ z. not (p z)) xs) 0) (suc (length xs)) ≡ (b || list_any p xs)
    by_test true e = lt-ltb 0 (suc (length xs)) (omega arith)
    by_test false e = one_more (prefix_len (λ z. not (p z)) xs) (length xs) ∙ e

-- the option has a value if and only if the test passes
some_cond : (b : Bool) (n : ℕ) → is_some (cond b (Some n) None) ≡ b
some_cond true n = refl
some_cond false n = refl

-- there is a first index that passes if and only if some element passes
pub position_any : {X : Type 0} (p : X → Bool) (xs : List X) → is_some (position p xs) ≡ list_any p xs
position_any p xs = some_cond (nat_lt (prefix_len (λ x. not (p x)) xs) (length xs)) (prefix_len (λ x. not (p x)) xs) ∙ index_found p xs
