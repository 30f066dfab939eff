-- Lists with one element changed.
use Rattle.std.proofs.Common.{◌≡◌, ◌≢◌, ◌∙◌, ◌∷◌, [], ℕ, List, Some, ap, ap₂, arith, map, set, sym}
use Rattle.std.specs.Prelude.{slice_get, suc, zero}
use Rattle.std.proofs.lemmas.List.{map-id}
use Rattle.std.proofs.lemmas.Option.{same_Some}
use Rattle.cqf_program_summary.specs.Summary.Counting.{changed_at}

-- setting an element to its changed value changes it
pub set_changes : {A : Type 0} (change : A → A) (xs : List A) (index : ℕ) (x after : A) → slice_get xs index ≡ Some x → after ≡ change x →
    set xs index after ≡ changed_at change index xs
set_changes change [] index x after is done = absurd cc
set_changes {A} change (y ∷ xs) zero x after is done = ap (λ (z : A). z ∷ xs) (done ∙ ap change (sym (same_Some y x is)))
set_changes {A} change (y ∷ xs) (suc index) x after is done = ap (λ (zs : List A). y ∷ zs) (set_changes change xs index x after is done)

-- two functions that agree at each index map to the same list
map_at : {A X : Type 0} (f g : A → X) (xs : List A) → ((a : A) (k : ℕ) → slice_get xs k ≡ Some a → f a ≡ g a) → map f xs ≡ map g xs
map_at f g [] same = λ i. []
map_at {A} {X} f g (a ∷ xs) same = ap₂ (λ (x : X) (rest : List X). x ∷ rest) (same a zero (λ i. Some a)) (map_at f g xs (λ b k is. same b (suc k) is))

-- lists that differ at one index are the same list with that element changed
pub changed_map : {A X : Type 0} (f g : A → X) (change : X → X) (xs : List A) (index : ℕ) (a : A) → slice_get xs index ≡ Some a → change (f a) ≡ g a →
    ((b : A) (k : ℕ) → slice_get xs k ≡ Some b → k ≢ index → f b ≡ g b) → changed_at change index (map f xs) ≡ map g xs
changed_map f g change [] index a is own others = absurd cc
changed_map {A} {X} f g change (b ∷ xs) zero a is own others =
    let same : b ≡ a = same_Some b a is in
    ap₂ (λ (x : X) (rest : List X). x ∷ rest) (ap (λ (c : A). change (f c)) same ∙ own ∙ ap g (sym same))
    (map_at f g xs (λ c k at. others c (suc k) at (λ e. omega (arith, e))))
changed_map {A} {X} f g change (b ∷ xs) (suc index) a is own others =
    ap₂ (λ (x : X) (rest : List X). x ∷ rest) (others b zero (λ i. Some b) (λ e. omega (arith, e)))
    (changed_map f g change xs index a is own (λ c k at differ. others c (suc k) at (λ e. differ (omega (arith, e)))))

-- setting an element to its image is mapping, if the function keeps each other element
pub set_maps : {A : Type 0} (f : A → A) (xs : List A) (index : ℕ) (x after : A) → slice_get xs index ≡ Some x → after ≡ f x →
    ((y : A) (k : ℕ) → slice_get xs k ≡ Some y → k ≢ index → f y ≡ y) → set xs index after ≡ map f xs
set_maps {A} f xs index x after is done keeps =
    set_changes f xs index x after is done
    ∙ ap (changed_at f index) (sym (map-id xs))
    ∙ changed_map (λ (y : A). y) f f xs index x is (λ i. f x) (λ y k at differ. sym (keeps y k at differ))

-- and if it keeps each element, nothing changes
pub map_keeps : {A : Type 0} (f : A → A) (xs : List A) → ((y : A) (k : ℕ) → slice_get xs k ≡ Some y → f y ≡ y) → xs ≡ map f xs
map_keeps {A} f xs keeps = sym (map-id xs) ∙ map_at (λ (y : A). y) f xs (λ y k at. sym (keeps y k at))
