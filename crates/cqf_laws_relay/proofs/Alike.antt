-- Filtering a list, mapped in two ways.
use Rattle.std.proofs.Common.{◌≡◌, Bool, true, false, cond, List, map, filter, refl, sym, ap, ap₂, Contains}
use Rattle.std.specs.Prelude.{[], ◌∷◌, ◌++◌}
use Rattle.std.proofs.lemmas.Bool.{true≢false}
use Rattle.cqf_lists.proofs.Members.{contains_here, contains_later}

-- what is kept of a list, mapped in two ways
pub kept_alike : {X A B Q : Type 0} (f : X → A) (g : X → B) (p : A → Bool) (q : B → Bool) (u : A → Q) (v : B → Q) (xs : List X) →
    ((x : X) → Contains xs x → p (f x) ≡ q (g x)) → ((x : X) → Contains xs x → q (g x) ≡ true → u (f x) ≡ v (g x)) →
    map u (filter p (map f xs)) ≡ map v (map g (filter (λ (x : X). q (g x)) xs))
kept_alike f g p q u v [] tests reported = refl
kept_alike {X} {A} {B} {Q} f g p q u v (x ∷ xs) tests reported =
    by_tests (p (f x)) (q (g x)) (tests x (contains_here x xs)) (reported x (contains_here x xs))
    (kept_alike f g p q u v xs (λ z c. tests z (contains_later x xs z c)) (λ z c. reported z (contains_later x xs z c)))
  where
    more : List A
    more = filter p (map f xs)

    others : List X
    others = filter (λ (z : X). q (g z)) xs

    by_tests : (a b : Bool) → a ≡ b → (b ≡ true → u (f x) ≡ v (g x)) → map u more ≡ map v (map g others) →
        map u (cond a (f x ∷ more) more) ≡ map v (map g (cond b (x ∷ others) others))
    by_tests true true is head same = ap₂ (λ (z : Q) (zs : List Q). z ∷ zs) (head refl) same
    by_tests false false is head same = same
    by_tests true false is head same = absurd (true≢false is)
    by_tests false true is head same = absurd (true≢false (sym is))

-- one element that is kept or not, mapped in two ways
pub one_alike : {A Q : Type 0} (u : A → Q) (x : A) (y : Q) (a b : Bool) → a ≡ b → u x ≡ y → map u (cond a (x ∷ []) []) ≡ cond b (y ∷ []) []
one_alike {A} {Q} u x y true true is same = ap (λ (z : Q). z ∷ []) same
one_alike u x y false false is same = refl
one_alike u x y true false is same = absurd (true≢false is)
one_alike u x y false true is same = absurd (true≢false (sym is))

-- and before others
pub kept_in_front : {X A Q : Type 0} (g : X → A) (v : A → Q) (x : X) (xs : List X) (b : Bool) →
    cond b (v (g x) ∷ []) [] ++ map v (map g xs) ≡ map v (map g (cond b (x ∷ xs) xs))
kept_in_front g v x xs true = refl
kept_in_front g v x xs false = refl
