-- Branches with the same spelling are the same.
use Rattle.std.proofs.Common.{ℕ, ◌≡◌, ◌∙◌, List, [], ◌∷◌, ◌++◌, ap, append_assoc, drop, get_or, refl, sym}
use Rattle.std.specs.List.{flat_map}
use Rattle.cqf_model.specs.History.{Branch}
use Rattle.cqf_admission.specs.Spelled.{spelled, spelled_branch, spelled_name}

-- the spelling determines a name and what follows
name_apart : (xs ys r s : List ℕ) → spelled_name xs ++ r ≡ spelled_name ys ++ s → (xs ≡ ys) × (r ≡ s)
name_apart [] [] r s same = (refl, ap (drop 1) same)
name_apart [] (y ∷ ys) r s same = absurd cc
name_apart (x ∷ xs) [] r s same = absurd cc
name_apart (x ∷ xs) (y ∷ ys) r s same =
    let first : x ≡ y = ap (λ (zs : List ℕ). get_or zs 1 0) same in
    let rest = name_apart xs ys r s (ap (drop 2) same) in
    ((λ i. first i ∷ rest.0 i), rest.1)

-- a branch's first name comes before the others
first_before : (x : List ℕ) (xs : Branch) (r : List ℕ) → spelled_branch (x ∷ xs) ++ r ≡ spelled_name x ++ (spelled_branch xs ++ r)
first_before x xs r =
    let others : List ℕ = flat_map spelled_name xs in
    ap (λ (zs : List ℕ). zs ++ r) (append_assoc (spelled_name x) others (1 ∷ [])) ∙ append_assoc (spelled_name x) (others ++ 1 ∷ []) r

-- the spelling determines a branch and what follows
branch_apart : (xs ys : Branch) (r s : List ℕ) → spelled_branch xs ++ r ≡ spelled_branch ys ++ s → (xs ≡ ys) × (r ≡ s)
branch_apart [] [] r s same = (refl, ap (drop 1) same)
branch_apart [] ([] ∷ ys) r s same = absurd cc
branch_apart [] ((y ∷ name) ∷ ys) r s same = absurd cc
branch_apart ([] ∷ xs) [] r s same = absurd cc
branch_apart ((x ∷ name) ∷ xs) [] r s same = absurd cc
branch_apart (x ∷ xs) (y ∷ ys) r s same =
    let first = name_apart x y (spelled_branch xs ++ r) (spelled_branch ys ++ s) (sym (first_before x xs r) ∙ same ∙ first_before y ys s) in
    let rest = branch_apart xs ys r s first.1 in
    ((λ i. first.0 i ∷ rest.0 i), rest.1)

-- so it determines all branches
pub spelled_apart : (xs ys : List Branch) → spelled xs ≡ spelled ys → xs ≡ ys
spelled_apart [] [] same = refl
spelled_apart [] ([] ∷ ys) same = absurd cc
spelled_apart [] (([] ∷ names) ∷ ys) same = absurd cc
spelled_apart [] (((y ∷ name) ∷ names) ∷ ys) same = absurd cc
spelled_apart ([] ∷ xs) [] same = absurd cc
spelled_apart (([] ∷ names) ∷ xs) [] same = absurd cc
spelled_apart (((x ∷ name) ∷ names) ∷ xs) [] same = absurd cc
spelled_apart (x ∷ xs) (y ∷ ys) same =
    let first = branch_apart x y (spelled xs) (spelled ys) same in
    (λ i. first.0 i ∷ spelled_apart xs ys first.1 i)
