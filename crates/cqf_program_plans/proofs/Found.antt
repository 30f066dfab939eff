-- What is listed for each element that passes, one element after the other.
use Rattle.std.proofs.Common.{◌≡◌, ◌∙◌, ◌+◌, ◌<◌, ◌++◌, ◌∷◌, [], ℕ, List, Bool, true, false, Option, Some, None}
use Rattle.std.proofs.Common.{if◌then◌else◌, append_assoc, ap, filter, get_or, length, map, refl, sym, take}
use Rattle.std.proofs.lemmas.List.{map-append}
use Rattle.std.proofs.lemmas.List.Elements.{filter_more}

-- what was found, as a list
abbrev pub items_of : {X : Type 0} → Option X → List X
items_of None = []
items_of (Some x) = x ∷ []

-- what is listed for an element if it passes
items_if : {X Y : Type 0} (f : X → Y) (x : X) (passes : Bool) → items_of (if passes then Some (f x) else None) ≡ map f (if passes then x ∷ [] else [])
items_if f x true = refl
items_if f x false = refl

-- one more element
pub listed_more : {X Y : Type 0} (p : X → Bool) (f : X → Y) (xs : List X) (k : ℕ) (none : X) (found : Option Y) (before done : List Y) → k < length xs →
    found ≡ (if p (get_or xs k none) then Some (f (get_or xs k none)) else None) → done ≡ before ++ map f (filter p (take k xs)) →
    done ++ items_of found ≡ before ++ map f (filter p (take (k + 1) xs))
listed_more p f xs k none found before done below is so_far =
    let x = get_or xs k none in
    let listed = map f (filter p (take k xs)) in
    let kept = if p x then x ∷ [] else [] in
    ap (λ z. z ++ items_of found) so_far
    ∙ append_assoc before listed (items_of found)
    ∙ ap (λ z. before ++ (listed ++ items_of z)) is
    ∙ ap (λ z. before ++ (listed ++ z)) (items_if f x (p x))
    ∙ ap (λ z. before ++ z) (sym (map-append f (filter p (take k xs)) kept))
    ∙ ap (λ z. before ++ map f z) (sym (filter_more p xs k none below))
