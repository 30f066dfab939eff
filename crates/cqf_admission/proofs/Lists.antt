-- Lists in which one element is replaced.
use Rattle.std.proofs.lemmas.List.{get_or_default}
use Rattle.std.proofs.Common.{◌≡◌, ◌∙◌, ℕ, ◌<◌, List, [], ◌∷◌, map, set, get_or, length, refl, sym, ap, arith, zero, suc}

-- a mapped list in which one element is replaced
pub map_set : {X Y : Type 0} (f : X → Y) (xs : List X) (k : ℕ) (x : X) → map f (set xs k x) ≡ set (map f xs) k (f x)
map_set f [] k x = refl
map_set f (y ∷ xs) zero x = refl
map_set {X} {Y} f (y ∷ xs) (suc k) x = ap (λ (zs : List Y). f y ∷ zs) (map_set f xs k x)

-- an element replaced by itself
pub set_own : {X : Type 0} (xs : List X) (k : ℕ) (x : X) → x ≡ get_or xs k x → set xs k x ≡ xs
set_own [] k x is = refl
set_own {X} (y ∷ xs) zero x is = ap (λ (z : X). z ∷ xs) is
set_own {X} (y ∷ xs) (suc k) x is = ap (λ (zs : List X). y ∷ zs) (set_own xs k x is)

-- an element of a mapped list, given that of the list
pub mapped_there : {X Y : Type 0} (f : X → Y) (xs : List X) (k : ℕ) (x : X) (d : Y) → k < length xs → x ≡ get_or xs k x → get_or (map f xs) k d ≡ f x
mapped_there f [] k x d low is = absurd (omega (arith, low))
mapped_there f (y ∷ xs) zero x d low is = ap f (sym is)
mapped_there f (y ∷ xs) (suc k) x d low is = mapped_there f xs k x d (omega (arith, low)) is

-- two reads at one index give the same
pub read_same : {X : Type 0} (xs : List X) (k : ℕ) (x y : X) → k < length xs → x ≡ get_or xs k x → y ≡ get_or xs k y → x ≡ y
read_same xs k x y low is also = is ∙ get_or_default xs k x y low ∙ sym also
