-- Requests, rows and domains that compare as equal are equal.
use Rattle.std.proofs.Common.{◌≡◌, ℕ, ◌<◌, Bool, true, List, [], ◌∷◌, map, nat_eq, drop, get_or, length, refl, ap, sym, ◌∙◌}
use Rattle.std.specs.Prelude.{String, Vec, option_map, slice_get, string_bytes}
use Rattle.std.specs.Cmp.Lexicographic.{pointwise}
use Rattle.std.specs.declared.alloc.Global.{Global}
use Rattle.std.proofs.lemmas.Bool.{and_from, and_parts}
use Rattle.std.proofs.lemmas.Option.{same_Some, slice_get-map}
use Rattle.std.proofs.lemmas.Slice.Eq.{bytes_eq-Decides}
use Rattle.cqf_admission.specs.Branches.{branch_of, branches_of}
use Rattle.cqf_desk.proofs.Rests.{is_at}

-- lists whose elements compare as equal have equal images
pub same_made : {X Y : Type 0} (E : X → X → Bool) (f : X → Y) → ((x y : X) → E x y ≡ true → f x ≡ f y) → (xs ys : List X) → pointwise E xs ys
    ≡ true → map f xs ≡ map f ys
same_made E f each [] [] h = refl
same_made E f each [] (y ∷ ys) h = absurd cc
same_made E f each (x ∷ xs) [] h = absurd cc
same_made E f each (x ∷ xs) (y ∷ ys) h =
    let parts = and_parts (E x y) (pointwise E xs ys) h in
    (λ i. each x y parts.0 i ∷ same_made E f each xs ys parts.1 i)

-- branches that compare as equal have the same names
pub same_branches : (xs ys : List (Vec (String Global) Global)) →
    pointwise (λ (x y : Vec (String Global) Global). pointwise (λ (s t : String Global). pointwise nat_eq (string_bytes s) (string_bytes t)) x.items y.items)
    xs ys ≡ true →
    branches_of xs ≡ branches_of ys
same_branches xs ys h =
    same_made (λ (x y : Vec (String Global) Global). pointwise (λ (s t : String Global). pointwise nat_eq (string_bytes s) (string_bytes t)) x.items y.items)
    (λ (x : Vec (String Global) Global). branch_of x.items)
    (λ x y same. same_made (λ (s t : String Global). pointwise nat_eq (string_bytes s) (string_bytes t)) (λ (s : String Global). string_bytes s)
    (λ s t alike. (bytes_eq-Decides (string_bytes s) (string_bytes t)).0 alike) x.items y.items same) xs ys h

-- lists with equal images compare as equal
pub made_same : {X Y : Type 0} (E : X → X → Bool) (f : X → Y) → ((x y : X) → f x ≡ f y → E x y ≡ true) → (xs ys : List X) → map f xs
    ≡ map f ys → pointwise E xs ys ≡ true
made_same E f each [] [] h = refl
made_same E f each [] (y ∷ ys) h = absurd cc
made_same E f each (x ∷ xs) [] h = absurd cc
made_same {X} {Y} E f each (x ∷ xs) (y ∷ ys) h =
    let first : f x ≡ f y = ap (λ (zs : List Y). get_or zs 0 (f x)) h in
    let others : map f xs ≡ map f ys = ap (drop 1) h in
    and_from (E x y) (pointwise E xs ys) (each x y first) (made_same E f each xs ys others)

-- branches that have the same names compare as equal
pub branches_same : (xs ys : List (Vec (String Global) Global)) → branches_of xs ≡ branches_of ys →
    pointwise (λ (x y : Vec (String Global) Global). pointwise (λ (s t : String Global). pointwise nat_eq (string_bytes s) (string_bytes t)) x.items y.items)
    xs ys ≡ true
branches_same xs ys h =
    made_same (λ (x y : Vec (String Global) Global). pointwise (λ (s t : String Global). pointwise nat_eq (string_bytes s) (string_bytes t)) x.items y.items)
    (λ (x : Vec (String Global) Global). branch_of x.items)
    (λ x y same. made_same (λ (s t : String Global). pointwise nat_eq (string_bytes s) (string_bytes t)) (λ (s : String Global). string_bytes s)
    (λ s t alike. (bytes_eq-Decides (string_bytes s) (string_bytes t)).1 alike) x.items y.items same) xs ys h

-- elements at the same index of lists with equal images have equal images
pub alike_at : {X Y : Type 0} (f : X → Y) (xs ys : List X) (k : ℕ) (x y : X) → k < length xs → k < length ys → x ≡ get_or xs k x → y ≡ get_or ys k y →
    map f xs ≡ map f ys → f x ≡ f y
alike_at {X} {Y} f xs ys k x y inside also is too same =
    same_Some (f x) (f y)
    (sym (slice_get-map f xs k ∙ ap (option_map f) (is_at xs k x inside is)) ∙ ap (λ (zs : List Y). slice_get zs k) same
    ∙ slice_get-map f ys k ∙ ap (option_map f) (is_at ys k y also too))
