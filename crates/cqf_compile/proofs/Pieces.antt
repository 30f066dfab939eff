-- Texts that are written one piece for each element of a list.
use Rattle.std.proofs.Common.{ℕ, ◌≡◌, ◌+◌, ◌<◌, List, [], ◌++◌, Some, None, length, take, get_or, slice_get, option_map, ap, sym, ◌∙◌, inl, inr}
use Rattle.std.specs.List.{flat_map}
use Rattle.std.proofs.lemmas.List.{take_more, flat_map_more}
use Rattle.std.proofs.lemmas.Option.{slice_get_cases}

-- one more element is one more piece
pub flat_map_taken : {X A : Type 0} (f : X → List A) (xs : List X) (k : ℕ) (d : X) → k < length xs →
    flat_map f (take (k + 1) xs) ≡ flat_map f (take k xs) ++ f (get_or xs k d)
flat_map_taken f xs k d inside = ap (flat_map f) (take_more xs k d inside) ∙ sym (flat_map_more f [] (take k xs) (get_or xs k d))

-- the same if the piece is what is written for an element that exists
pub flat_map_found : {X A : Type 0} (f : X → List A) (xs : List X) (k : ℕ) (piece : List A) → option_map f (slice_get xs k) ≡ Some piece →
    flat_map f (take (k + 1) xs) ≡ flat_map f (take k xs) ++ piece
flat_map_found f xs k piece found = elim (slice_get_cases xs k).1 [
  | inl here ↦ (let same : Some (f here.0) ≡ Some piece = ap (option_map f) (sym here.2) ∙ found in
      let is : f (get_or xs k here.0) ≡ piece = ap f here.3 ∙ (cc) in
      flat_map_taken f xs k here.0 here.1 ∙ ap (λ rest. flat_map f (take k xs) ++ rest) is)
  | inr past ↦ (let none : None ≡ Some piece = ap (option_map f) (sym past.1) ∙ found in cc)
]
