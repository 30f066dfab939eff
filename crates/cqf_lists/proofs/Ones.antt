-- Concatenations of lists of one element.
use Rattle.std.proofs.Common.{◌≡◌, ◌∷◌, [], ◌++◌, List, map, flat_map, ap, ◌∙◌, refl, Contains}
use Rattle.cqf_lists.proofs.Members.{contains_here, contains_later}

-- if each member makes one element, the concatenation is the mapped list
pub flat_map_ones : {X Y : Type 0} (f : X → List Y) (g : X → Y) (xs : List X) → ((x : X) → Contains xs x → f x ≡ g x ∷ []) → flat_map f xs ≡ map g xs
flat_map_ones f g [] one = refl
flat_map_ones {X} {Y} f g (x ∷ xs) one =
    ap (λ (ys : List Y). ys ++ flat_map f xs) (one x (contains_here x xs))
    ∙ ap (λ (ys : List Y). g x ∷ ys) (flat_map_ones f g xs (λ z c. one z (contains_later x xs z c)))
