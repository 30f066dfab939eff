-- The values of streams with what was chosen for each.
use Rattle.std.proofs.Common.{◌≡◌, ◌∙◌, ◌+◌, ◌<◌, ◌≤◌, ℕ, zero, suc, List, [], ◌∷◌, ◌++◌, length, map, get_or, slice_get, drop, drop-cons, add-one, append_assoc, append-nil, refl, ap, sym}
use Rattle.std.proofs.lemmas.List.{map-append, drop_all}
use Rattle.toml.specs.Data.{Data, item}
use Rattle.toml.specs.declared.value.Value.{Value}
use Rattle.toml.specs.View.{items_of, items_view, view}
use Rattle.cqf_network_text.specs.declared.filling.FilledStream.{FilledStream}
use Rattle.cqf_network_text.specs.Networks.{filled_item, filled_streams, item_by}

-- the same over a list
abbrev pub filled_list : List FilledStream → List Data → List Data
filled_list [] ds = ds
filled_list (one ∷ rest) [] = []
filled_list (one ∷ rest) (d ∷ ds) = filled_item one d ∷ filled_list rest ds

pub filled_list_is : (filled : List FilledStream) (ds : List Data) → items_of (filled_list filled ds) ≡ filled_streams filled (items_of ds)
filled_list_is [] ds = refl
filled_list_is (one ∷ rest) [] = refl
filled_list_is (one ∷ rest) (d ∷ ds) = ap (item (filled_item one d)) (filled_list_is rest ds)

-- none are left
filled_none : (filled : List FilledStream) → filled_list filled [] ≡ []
filled_none [] = refl
filled_none (one ∷ rest) = refl

-- the first of those that are left
filled_first : (filled : List FilledStream) (i : ℕ) (d : Data) (ds : List Data) →
    filled_list (drop i filled) (d ∷ ds) ≡ item_by (slice_get filled i) d ∷ filled_list (drop (suc i) filled) ds
filled_first [] zero d ds = refl
filled_first [] (suc i) d ds = refl
filled_first (one ∷ rest) zero d ds = refl
filled_first (one ∷ rest) (suc i) d ds = filled_first rest i d ds

-- one more value
pub fill_next : (filled : List FilledStream) (vs : List Value) (i : ℕ) (v : Value) (done done' : List Value) (w : Value) → i < length vs → v ≡ get_or vs i v
    → view w ≡ item_by (slice_get filled i) (view v) → done' ≡ done ++ w ∷ []
    → map view done ++ filled_list (drop i filled) (map view (drop i vs)) ≡ filled_list filled (map view vs)
    → map view done' ++ filled_list (drop (i + 1) filled) (map view (drop (i + 1) vs)) ≡ filled_list filled (map view vs)
fill_next filled vs i v done done' w inside at is pushed before =
    let here : drop i vs ≡ v ∷ drop (suc i) vs = drop-cons vs i v inside ∙ ap (λ x. x ∷ drop (suc i) vs) (sym at) in
    let one_more : map view done' ≡ map view done ++ (view w ∷ []) = ap (map view) pushed ∙ map-append view done (w ∷ []) in
    let rest : filled_list (drop i filled) (map view (drop i vs)) ≡ view w ∷ filled_list (drop (suc i) filled) (map view (drop (suc i) vs)) =
    ap (λ xs. filled_list (drop i filled) (map view xs)) here ∙ filled_first filled i (view v) (map view (drop (suc i) vs))
    ∙ ap (λ x. x ∷ filled_list (drop (suc i) filled) (map view (drop (suc i) vs))) (sym is) in
    ap (λ k. map view done' ++ filled_list (drop k filled) (map view (drop k vs))) (add-one i)
    ∙ ap (λ xs. xs ++ filled_list (drop (suc i) filled) (map view (drop (suc i) vs))) one_more
    ∙ append_assoc (map view done) (view w ∷ []) (filled_list (drop (suc i) filled) (map view (drop (suc i) vs)))
    ∙ ap (λ xs. map view done ++ xs) (sym rest) ∙ before

-- all of them
pub fill_last : (filled : List FilledStream) (vs : List Value) (i : ℕ) (done : List Value) → length vs ≤ i
    → map view done ++ filled_list (drop i filled) (map view (drop i vs)) ≡ filled_list filled (map view vs)
    → items_view done ≡ filled_streams filled (items_view vs)
fill_last filled vs i done past before =
    let none : filled_list (drop i filled) (map view (drop i vs)) ≡ [] =
    ap (λ xs. filled_list (drop i filled) (map view xs)) (drop_all i vs past) ∙ filled_none (drop i filled) in
    ap items_of (sym (append-nil (map view done)) ∙ ap (λ xs. map view done ++ xs) (sym none) ∙ before) ∙ filled_list_is filled (map view vs)
