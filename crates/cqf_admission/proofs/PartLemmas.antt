-- Branches that part, and branches that are stray, found by comparing names.
use Rattle.std.proofs.Common.{◌≡◌, ℕ, ◌<◌, ◌≤◌, Bool, false, List, Option, Some, [], ◌∷◌, not, length, drop, take, get_or, refl, ap, ◌∙◌, sym, arith, nat_eq}
use Rattle.std.proofs.Common.{◌==◌, ◌&&◌}
use Rattle.std.specs.Prelude.{String, Vec, option_map, slice_get}
use Rattle.std.specs.Cmp.Lexicographic.{pointwise}
use Rattle.std.specs.List.{list_any}
use Rattle.std.specs.Option.{option_map_or}
use Rattle.std.specs.declared.alloc.Global.{Global}
use Rattle.std.proofs.lemmas.Bool.Decides.{nat_tests}
use Rattle.std.proofs.lemmas.List.{drop_all, take-map}
use Rattle.std.proofs.lemmas.Option.{slice_get-map, slice_get_read}
use Rattle.cqf_lists.proofs.Any.{list_any-map}
use Rattle.cqf_model.specs.Domain.{is_text}
use Rattle.cqf_model.specs.History.{Branch, is_stray, make_a_tree, part}
use Rattle.cqf_admission.specs.Branches.{branch_of, branches_of}

-- the comparison of two bytes is that of numbers
nat_eq-is : (x y : ℕ) → nat_eq x y ≡ (x == y)
nat_eq-is x y = grind (arith, nat_tests)

-- so the comparison of two texts is that of their bytes
pub same_text : (a b : List ℕ) → pointwise nat_eq a b ≡ is_text a b
same_text [] [] = refl
same_text [] (y ∷ ys) = refl
same_text (x ∷ xs) [] = refl
same_text (x ∷ xs) (y ∷ ys) = (λ i. nat_eq-is x y i && same_text xs ys i)

-- if one branch has no more names, the two don't part
pub none_left : (names others : List (String Global)) (index : ℕ) → length others ≤ index →
    part (branch_of (drop index names)) (branch_of (drop index others)) ≡ false
none_left names others index past = ap (λ (xs : List (String Global)). part (branch_of (drop index names)) (branch_of xs)) (drop_all index others past)
    ∙ with_none (branch_of (drop index names))
  where
    -- no branch parts from one without names
    with_none : (xs : Branch) → part xs [] ≡ false
    with_none [] = refl
    with_none (x ∷ xs) = refl

-- a branch that makes no tree with one before it, found by comparing names
pub stray_is : (paths : List (Vec (String Global) Global)) (number : ℕ) (branch : Vec (String Global) Global) (names : List (String Global)) →
    number < length paths → branch ≡ get_or paths number branch → names ≡ branch.items → (stray : Bool) →
    stray ≡ list_any (λ (other : Vec (String Global) Global). not (make_a_tree (branch_of other.items) (branch_of names))) (take number paths) →
    stray ≡ is_stray (branches_of paths) number
stray_is paths number branch names inside is items stray found =
    let view : Vec (String Global) Global → Branch = λ b. branch_of b.items in
    let there : slice_get (branches_of paths) number ≡ Some (branch_of branch.items) =
    slice_get-map view paths number
    ∙ ap (λ (o : Option (Vec (String Global) Global)). option_map view o) (slice_get_read paths (length paths) number branch refl inside is) in
    found
    ∙ ap (λ (xs : List (String Global)). list_any (λ (other : Vec (String Global) Global). not (make_a_tree (view other) (branch_of xs)))
    (take number paths)) items
    ∙ sym (list_any-map (λ other. not (make_a_tree other (branch_of branch.items))) view (take number paths))
    ∙ ap (list_any (λ other. not (make_a_tree other (branch_of branch.items)))) (sym (take-map view number paths))
    ∙ ap (λ (o : Option Branch). option_map_or (λ b. list_any (λ other. not (make_a_tree other b)) (take number (branches_of paths))) o false) (sym there)
