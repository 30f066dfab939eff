-- A list read one element after the other, following what was read already.
use Rattle.std.proofs.Common.{◌≡◌, ◌<◌, ◌≤◌, ◌+◌, ℕ, suc, List, [], ◌∷◌, ◌++◌, Result, Ok, Err, length, get_or, drop}
use Rattle.std.proofs.Common.{map, take, drop-cons, add-one, append_assoc, refl, ap, sym, ◌∙◌}
use Rattle.std.proofs.lemmas.List.{append-nil, drop_all, map-append, take_more}
use Rattle.cqf_topology.specs.Fields.{and_first}
use Rattle.cqf_topology.specs.DomainText.{with_front}

-- reading the rest after one more element is reading this element and the rest after the others
front-more : {A E : Type 0} (done : List A) (x : A) (rest : Result (List A) E) → with_front (done ++ x ∷ []) rest ≡ with_front done (and_first (Ok x) rest)
front-more done x (Ok rest) = ap Ok (append_assoc done (x ∷ []) rest)
front-more done x (Err e) = refl

module _ {V A E : Type 0} (one : V → Result A E) (each : List V → Result (List A) E)
    (by_one : (v : V) (vs : List V) → each (v ∷ vs) ≡ and_first (one v) (each vs))
    (values : List V) (k : ℕ) (v : V) (inside : k < length values) (at : v ≡ get_or values k v) (done : List A) where
  -- what is read from an index on: the element there, and then the rest
  from-index : each (drop k values) ≡ and_first (one v) (each (drop (k + 1) values))
  from-index =
      ap each (drop-cons values k v inside) ∙ by_one (get_or values k v) (drop (suc k) values)
      ∙ (λ i. and_first (one (sym at i)) (each (drop (sym (add-one k) i) values)))

  -- if the element was read, there is one more
  pub read-more : (x : A) (done' : List A) → one v ≡ Ok x → done' ≡ done ++ x ∷ [] →
      with_front done' (each (drop (k + 1) values)) ≡ with_front done (each (drop k values))
  read-more x done' good more =
      ap (λ front. with_front front (each (drop (k + 1) values))) more ∙ front-more done x (each (drop (k + 1) values))
      ∙ ap (λ r. with_front done (and_first r (each (drop (k + 1) values)))) (sym good) ∙ ap (with_front done) (sym from-index)

  -- if the element wasn't read, its fault is the fault of all
  pub read-fault : (e : E) → one v ≡ Err e → with_front done (each (drop k values)) ≡ Err e
  read-fault e bad = ap (with_front done) (from-index ∙ ap (λ r. and_first r (each (drop (k + 1) values))) bad)

-- at the end all was read
pub read-all : {V A E : Type 0} (each : List V → Result (List A) E) → each [] ≡ Ok [] → (values : List V) (k : ℕ) → length values ≤ k → (done : List A)
    → with_front done (each (drop k values)) ≡ Ok done
read-all each none values k past done = ap (λ rest. with_front done (each rest)) (drop_all k values past) ∙ ap (with_front done) none ∙ ap Ok (append-nil done)

module _ {X : Type 0} (xs : List X) (k : ℕ) (x : X) (inside : k < length xs) (at : x ≡ get_or xs k x) where
  -- the elements before an index, and the element there
  take-one : take k xs ++ x ∷ [] ≡ take (k + 1) xs
  take-one = ap (λ y. take k xs ++ y ∷ []) at ∙ sym (take_more xs k x inside)

  -- one more element is copied
  pub take-more : (done done' : List X) (copy : X) → done' ≡ done ++ copy ∷ [] → copy ≡ x → done ≡ take k xs → done' ≡ take (k + 1) xs
  take-more done done' copy more same before = more ∙ (λ i. before i ++ same i ∷ []) ∙ take-one

  -- and so if the copy has the same value
  pub copy-more : {Y : Type 0} (value : X → Y) (done done' : List X) (copy : X) → done' ≡ done ++ copy ∷ [] → value copy ≡ value x
      → map value done ≡ map value (take k xs) → map value done' ≡ map value (take (k + 1) xs)
  copy-more value done done' copy more same before =
      ap (map value) more ∙ map-append value done (copy ∷ []) ∙ (λ i. before i ++ same i ∷ []) ∙ sym (map-append value (take k xs) (x ∷ []))
      ∙ ap (map value) take-one
