-- Rows, each inside another value, such as one that several tables share.
use Rattle.std.proofs.Common.{◌≡◌, ◌∙◌, ℕ, ◌-◌, ◌++◌, List, [], ◌∷◌, length, map, get_or, take, drop, refl, ap, sym, arith}
use Rattle.std.specs.Prelude.{suc, zero}
use Rattle.std.proofs.lemmas.List.{drop-map, length-drop, map-append, take_all}

module _ {X Y : Type 0} (f : X → Y) where
  -- the element at an index
  pub mapped_at : (xs : List X) (index : ℕ) (x : X) → x ≡ get_or xs index x → f x ≡ get_or (map f xs) index (f x)
  mapped_at [] index x is = refl
  mapped_at (y ∷ xs) zero x is = ap f is
  mapped_at (y ∷ xs) (suc index) x is = mapped_at xs index x is

  -- one more element at the end
  pub mapped_more : (xs after : List X) (x : X) (y : Y) → after ≡ xs ++ x ∷ [] → f x ≡ y → map f after ≡ map f xs ++ y ∷ []
  mapped_more xs after x y grown is = ap (map f) grown ∙ map-append f xs (x ∷ []) ∙ ap (λ (z : Y). map f xs ++ z ∷ []) is

  -- the last elements, from an index on
  pub mapped_last : (xs : List X) (from : ℕ) → map f (take (length xs - from) (drop from xs)) ≡ drop from (map f xs)
  mapped_last xs from = ap (map f) (take_all (length xs - from) (drop from xs) (omega (arith, length-drop from xs))) ∙ sym (drop-map f from xs)
