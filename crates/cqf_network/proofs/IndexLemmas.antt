-- Indexes in lists with equal images.
use Rattle.std.proofs.Common.{◌≡◌, ◌<◌, ℕ, List, length, map, ap, arith}
use Rattle.std.proofs.lemmas.List.{length-map}

-- an index of one list is an index of the other
pub index_across : {X Y Z : Type 0} (f : X → Z) (g : Y → Z) (xs : List X) (ys : List Y) (k : ℕ) → map f xs ≡ map g ys → k < length xs → k < length ys
index_across f g xs ys k same inside = omega (arith, inside, ap length same, length-map xs f, length-map ys g)
