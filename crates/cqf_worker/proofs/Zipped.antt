-- Lists whose elements are paired index by index, and lists of values of their elements.
use Rattle.std.proofs.Common.{◌≡◌, ◌∙◌, ◌++◌, List, [], ◌∷◌, All, ap, map, subst, sym}
use Rattle.std.specs.List.{AllZip}
use Rattle.std.proofs.lemmas.List.{map-append}
use Rattle.std.proofs.lemmas.List.Elements.{All-head, All-push, All-tail}
use Rattle.std.proofs.lemmas.Slice.Zip.{all_zipped_more}

-- one more element for which this holds is appended
abbrev pub HasOneMore : {X : Type 0} → (X → Type 0) → List X → List X → Type 0
HasOneMore {X} P before after = (x : X) × (after ≡ before ++ x ∷ []) × P x

-- what holds of each element holds of the first one
pub holds_of_first : {A : Type 0} (P : A → Type 0) (x : A) (xs all : List A) → all ≡ x ∷ xs → All P all → P x
holds_of_first P x xs all are each = All-head P x xs (subst (All P) are each)

-- what holds of each element still holds with one more
pub holds_of_more : {A : Type 0} (P : A → Type 0) (x : A) (xs more : List A) → more ≡ xs ++ x ∷ [] → All P xs → P x → All P more
holds_of_more P x xs more is each one = subst (All P) (sym is) (All-push P xs x each one)

-- one element more, whose value is known
pub mapped_more : {A B : Type 0} (f : A → B) (x : A) (xs more : List A) (y : B) (ys : List B) → more ≡ xs ++ x ∷ [] → map f xs ≡ ys → f x ≡ y
    → map f more ≡ ys ++ y ∷ []
mapped_more f x xs more y ys is are one =
    ap (map f) is ∙ map-append f xs (x ∷ []) ∙ ap (λ l. l ++ f x ∷ []) are ∙ ap (λ v. ys ++ v ∷ []) one

-- one element more on either side
pub zipped_more : {A B : Type 0} (R : A → B → Type 0) (x : A) (xs : List A) (ys more : List B) → AllZip R xs ys → HasOneMore (R x) ys more
    → AllZip R (xs ++ x ∷ []) more
zipped_more R x xs ys more each one = subst (AllZip R (xs ++ x ∷ [])) (sym one.1) (all_zipped_more R xs ys x one.0 each one.2)

-- if each element has the same first value, that value may replace it
pub zipped_same : {A B C : Type 0} (f : A → B) (R : B → A → C → Type 0) (b : B) (xs : List A) (zs : List C) → All (λ x. f x ≡ b) xs
    → AllZip (λ x z. R (f x) x z) xs zs → AllZip (R b) xs zs
zipped_same f R b [] [] same each = each
zipped_same f R b [] (z ∷ zs) same each = each
zipped_same f R b (x ∷ xs) [] same each = each
zipped_same f R b (x ∷ xs) (z ∷ zs) same each = (
  subst (λ c. R c x z) (All-head (λ y. f y ≡ b) x xs same) each.0,
  zipped_same f R b xs zs (All-tail (λ y. f y ≡ b) x xs same) each.1,
)

-- what is paired with an element is paired with its value
pub zipped_mapped : {A B C : Type 0} (f : A → B) (R : B → C → Type 0) (xs : List A) (zs : List C) → AllZip (λ x z. R (f x) z) xs zs → AllZip R (map f xs) zs
zipped_mapped f R [] [] each = each
zipped_mapped f R [] (z ∷ zs) each = each
zipped_mapped f R (x ∷ xs) [] each = each
zipped_mapped f R (x ∷ xs) (z ∷ zs) each = (each.0, zipped_mapped f R xs zs each.1)

-- the same if the values are a known list
pub zipped_values : {A B C : Type 0} (f : A → B) (R : B → C → Type 0) (xs : List A) (ys : List B) (zs : List C) → map f xs ≡ ys
    → AllZip (λ x z. R (f x) z) xs zs → AllZip R ys zs
zipped_values f R xs ys zs are each = subst (λ l. AllZip R l zs) are (zipped_mapped f R xs zs each)
