-- What is left of an array of links, element by element.
use Rattle.std.proofs.Common.{◌≡◌, ◌∙◌, ◌+◌, ◌<◌, ◌≤◌, ℕ, suc, List, [], ◌∷◌, ◌++◌, Option, Some, None, length, map, option_map, get_or, drop, drop-cons, add-one}
use Rattle.std.proofs.Common.{append_assoc, append-nil, refl, ap, sym}
use Rattle.std.proofs.lemmas.List.{drop_all}
use Rattle.toml.specs.Data.{Data, Items, item}
use Rattle.toml.specs.declared.value.Value.{Value}
use Rattle.toml.specs.View.{items_of, items_view, view}
use Rattle.cqf_program_words.specs.declared.links.LinkName.{LinkName}
use Rattle.cqf_program_without.specs.Links.{item_if, item_left, links_left, listed}

-- the same over a list
abbrev pub left_list : List LinkName → Items → List Data → List Data
left_list links stations [] = []
left_list links stations (d ∷ ds) = listed (item_left links stations d) ++ left_list links stations ds

pub left_list_is : (links : List LinkName) (stations : Items) (ds : List Data) →
    items_of (left_list links stations ds) ≡ links_left links stations (items_of ds)
left_list_is links stations [] = refl
left_list_is links stations (d ∷ ds) = by (left_list_is links stations ds) (item_left links stations d)
  where
    by : items_of (left_list links stations ds) ≡ links_left links stations (items_of ds) → (left : Option Data) →
        items_of (listed left ++ left_list links stations ds) ≡ item_if left (links_left links stations (items_of ds))
    by rest None = rest
    by rest (Some e) = ap (item e) rest

-- one more element
pub left_next : (links : List LinkName) (stations : Items) (vs : List Value) (i : ℕ) (v : Value) (left : Option Value) (done done' : List Value) →
    i < length vs → v ≡ get_or vs i v → option_map view left ≡ item_left links stations (view v) →
    map view done' ≡ map view done ++ listed (option_map view left) →
    map view done ++ left_list links stations (map view (drop i vs)) ≡ left_list links stations (map view vs) →
    map view done' ++ left_list links stations (map view (drop (i + 1) vs)) ≡ left_list links stations (map view vs)
left_next links stations vs i v left done done' inside at is pushed before =
    let rest = left_list links stations (map view (drop (suc i) vs)) in
    let here : drop i vs ≡ v ∷ drop (suc i) vs = drop-cons vs i v inside ∙ ap (λ x. x ∷ drop (suc i) vs) (sym at) in
    let opened : left_list links stations (map view (drop i vs)) ≡ listed (option_map view left) ++ rest =
    ap (λ xs. left_list links stations (map view xs)) here ∙ ap (λ o. listed o ++ rest) (sym is) in
    ap (λ k. map view done' ++ left_list links stations (map view (drop k vs))) (add-one i)
    ∙ ap (λ xs. xs ++ rest) pushed
    ∙ append_assoc (map view done) (listed (option_map view left)) rest
    ∙ ap (λ xs. map view done ++ xs) (sym opened) ∙ before

-- all of them
pub left_last : (links : List LinkName) (stations : Items) (vs : List Value) (i : ℕ) (done : List Value) → length vs ≤ i →
    map view done ++ left_list links stations (map view (drop i vs)) ≡ left_list links stations (map view vs) →
    items_view done ≡ links_left links stations (items_view vs)
left_last links stations vs i done past before =
    let none : left_list links stations (map view (drop i vs)) ≡ [] = ap (λ xs. left_list links stations (map view xs)) (drop_all i vs past) in
    ap items_of (sym (append-nil (map view done)) ∙ ap (λ xs. map view done ++ xs) (sym none) ∙ before)
    ∙ left_list_is links stations (map view vs)
