-- Lists made from the elements that a test keeps.
use Rattle.std.proofs.Common.{◌≡◌, ◌∷◌, [], ◌++◌, List, Bool, true, false, cond, map, filter, flat_map, ap₂, ◌∙◌, refl, Contains}
use Rattle.std.proofs.lemmas.List.{map-append}
use Rattle.cqf_lists.proofs.Members.{contains_here, contains_later}

-- if each element gives what is kept of one element, all give what is kept of these elements
pub flat_filter : {X Z Y : Type 0} (f : X → List Y) (moved : X → Z) (g : Z → Y) (p : Y → Bool) (xs : List X) →
    ((x : X) → Contains xs x → f x ≡ cond (p (g (moved x))) (g (moved x) ∷ []) []) → flat_map f xs ≡ filter p (map g (map moved xs))
flat_filter f moved g p [] each = refl
flat_filter {X} {Z} {Y} f moved g p (x ∷ xs) each =
    ap₂ (λ a b. a ++ b) (each x (contains_here x xs)) (flat_filter f moved g p xs (λ y c. each y (contains_later x xs y c)))
    ∙ first (p (g (moved x))) (filter p (map g (map moved xs)))
  where
    -- an element that is kept is the first
    first : (b : Bool) (rest : List Y) → cond b (g (moved x) ∷ []) [] ++ rest ≡ cond b (g (moved x) ∷ rest) rest
    first true rest = refl
    first false rest = refl

-- if what each element gives is mapped to one kept element, so it is for all
pub map_flat : {X Y Z : Type 0} (f : X → List Y) (h : Y → Z) (keeps : X → Bool) (g : X → Z) (xs : List X) →
    ((x : X) → Contains xs x → map h (f x) ≡ cond (keeps x) (g x ∷ []) []) → map h (flat_map f xs) ≡ map g (filter keeps xs)
map_flat f h keeps g [] each = refl
map_flat {X} {Y} {Z} f h keeps g (x ∷ xs) each =
    map-append h (f x) (flat_map f xs)
    ∙ ap₂ (λ a b. a ++ b) (each x (contains_here x xs)) (map_flat f h keeps g xs (λ y c. each y (contains_later x xs y c)))
    ∙ first (keeps x) (filter keeps xs)
  where
    -- an element that is kept is the first
    first : (b : Bool) (rest : List X) → cond b (g x ∷ []) [] ++ map g rest ≡ map g (cond b (x ∷ rest) rest)
    first true rest = refl
    first false rest = refl
