-- A list that is updated in place: its first elements are updated, the others unchanged.
use Rattle.std.proofs.Common.{◌≡◌, ℕ, ◌+◌, ◌<◌, ◌++◌, List, [], ◌∷◌, get_or, length, set, sym, ap}
use Rattle.std.proofs.Common.{◌∙◌, arith, append_assoc, drop, map, take}
use Rattle.std.proofs.Math.Seq.{get_or-append_seam, set-append_seam}
use Rattle.std.proofs.lemmas.List.{drop_more, length-map, length-take-le, map-append, take_more}

module _ {X : Type 0} (f : X → X) (before now : List X) (count : ℕ) (inside : count < length before)
    (h : now ≡ map f (take count before) ++ drop count before) where
  done_len : length (map f (take count before)) ≡ count
  done_len = length-map (take count before) f ∙ length-take-le count before (omega (arith, inside))

  seam : (r : X) → now ≡ map f (take count before) ++ get_or before count r ∷ drop (count + 1) before
  seam r = h ∙ ap (λ (xs : List X). map f (take count before) ++ xs) (drop_more before count r inside)

  -- the next element is unchanged
  pub next_is : (r : X) → get_or now count r ≡ get_or before count r
  next_is r =
      ap (λ (xs : List X). get_or xs count r) (seam r)
      ∙ ap (λ (n : ℕ). get_or (map f (take count before) ++ get_or before count r ∷ drop (count + 1) before) n r) (sym done_len)
      ∙ get_or-append_seam (map f (take count before)) (get_or before count r) (drop (count + 1) before) r

  -- and becomes updated
  pub next_done : (r after : X) → r ≡ get_or now count r → after ≡ f r → set now count after ≡ map f (take (count + 1) before) ++ drop (count + 1) before
  next_done r after is done =
      ap (λ (xs : List X). set xs count after) (seam r)
      ∙ ap (λ (n : ℕ). set (map f (take count before) ++ get_or before count r ∷ drop (count + 1) before) n after) (sym done_len)
      ∙ set-append_seam (map f (take count before)) (get_or before count r) (drop (count + 1) before) after
      ∙ ap (λ (y : X). map f (take count before) ++ y ∷ drop (count + 1) before) (done ∙ ap f (is ∙ next_is r))
      ∙ sym (append_assoc (map f (take count before)) (f (get_or before count r) ∷ []) (drop (count + 1) before))
      ∙ ap (λ (xs : List X). xs ++ drop (count + 1) before)
      (sym (map-append f (take count before) (get_or before count r ∷ [])) ∙ ap (map f) (sym (take_more before count r inside)))
