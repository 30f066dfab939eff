-- What is made of the elements that a filter keeps.
use Rattle.std.proofs.Common.{◌≡◌, ◌∷◌, [], ◌++◌, List, Bool, true, false, cond, map, filter, flat_map, ap, ap₂, ◌∙◌, refl, Contains}
use Rattle.cqf_lists.proofs.Members.{contains_here, contains_later}

-- if the elements that aren't kept make nothing, and the kept ones make the same after renaming, then the kept ones make everything
pub flat_kept : {X Y Z : Type 0} (keeps : X → Bool) (renamed : X → Z) (f : X → List Y) (g : Z → List Y) (xs : List X) →
    ((x : X) → Contains xs x → keeps x ≡ true → f x ≡ g (renamed x)) → ((x : X) → Contains xs x → keeps x ≡ false → f x ≡ []) →
    flat_map f xs ≡ flat_map g (map renamed (filter keeps xs))
flat_kept keeps renamed f g [] kept left = refl
flat_kept {X} {Y} {Z} keeps renamed f g (x ∷ xs) kept left =
    ap (λ z. f x ++ z) (flat_kept keeps renamed f g xs (λ y c. kept y (contains_later x xs y c)) (λ y c. left y (contains_later x xs y c)))
    ∙ first (keeps x) (kept x (contains_here x xs)) (left x (contains_here x xs))
  where
    -- the first element makes the same after renaming if it is kept, otherwise nothing
    first : (b : Bool) → (b ≡ true → f x ≡ g (renamed x)) → (b ≡ false → f x ≡ []) →
        f x ++ flat_map g (map renamed (filter keeps xs)) ≡ flat_map g (map renamed (cond b (x ∷ filter keeps xs) (filter keeps xs)))
    first true kept left = ap (λ z. z ++ flat_map g (map renamed (filter keeps xs))) (kept refl)
    first false kept left = ap (λ z. z ++ flat_map g (map renamed (filter keeps xs))) (left refl)

-- if no element makes anything, the result is empty
pub flat_none : {X Y : Type 0} (f : X → List Y) (xs : List X) → ((x : X) → Contains xs x → f x ≡ []) → flat_map f xs ≡ []
flat_none f [] none = refl
flat_none f (x ∷ xs) none = ap₂ (λ a b. a ++ b) (none x (contains_here x xs)) (flat_none f xs (λ y c. none y (contains_later x xs y c)))
