-- The first element of each name, element by element.
use Rattle.std.proofs.Common.{◌≡◌, ◌∙◌, ℕ, Bool, true, false, cond, List, [], ◌∷◌, ◌++◌, Option, Some, None, is_some, length, position, refl, sym, ap, subst, arith}
use Rattle.std.specs.Prelude.{◌==◌, ◌&&◌, nat_eq}
use Rattle.std.specs.Cmp.Lexicographic.{pointwise}
use Rattle.std.proofs.lemmas.Bool.Decides.{nat_tests}
use Rattle.cqf_lists.specs.Lists.{or_else}
use Rattle.cqf_lists.proofs.Firsts.{position-push}
use Rattle.cqf_model.specs.Domain.{is_text}
use Rattle.cqf_model.proofs.Texts.{is_text_same, pointwise-is_text}

-- an option that isn't `Some` is `None`
pub none_of : {X : Type 0} (o : Option X) → is_some o ≡ false → o ≡ None
none_of None h = refl
none_of (Some x) h = absurd cc

-- two texts are compared alike in either order
is_text_either : (xs ys : List ℕ) → is_text xs ys ≡ is_text ys xs
is_text_either [] [] = refl
is_text_either [] (y ∷ ys) = refl
is_text_either (x ∷ xs) [] = refl
is_text_either (x ∷ xs) (y ∷ ys) = λ i. either x y i && is_text_either xs ys i
  where
    either : (x y : ℕ) → (x == y) ≡ (y == x)
    either x y = grind (arith, nat_tests)

-- what was found stays found if more follows
or_found : {X : Type 0} (o later : Option X) → is_some o ≡ true → o ≡ or_else o later
or_found None later h = absurd cc
or_found (Some x) later h = refl

or_nothing : {X : Type 0} (o : Option X) → o ≡ or_else o None
or_nothing None = refl
or_nothing (Some x) = refl

module _ {X : Type 0} (text : X → List ℕ) (under : List ℕ → Option ℕ) (xs after : List X) (x : X)
    (leads : (name : List ℕ) → under name ≡ position (λ y. is_text (text y) name) xs) (more : after ≡ xs ++ x ∷ []) where
  -- the first index of a name in the list with one more element at the end
  placed : (name : List ℕ) → position (λ y. is_text (text y) name) after ≡ or_else (under name) (cond (is_text (text x) name) (Some (length xs)) None)
  placed name = ap (position (λ y. is_text (text y) name)) more ∙ position-push (λ y. is_text (text y) name) xs x
      ∙ ap (λ o. or_else o (cond (is_text (text x) name) (Some (length xs)) None)) (sym (leads name))

  -- an element whose name is known changes no first index
  pub known_name : is_some (under (text x)) ≡ true → (name : List ℕ) → under name ≡ position (λ y. is_text (text y) name) after
  known_name known name = by (is_text (text x) name) refl ∙ sym (placed name)
    where
      by : (b : Bool) → is_text (text x) name ≡ b → under name ≡ or_else (under name) (cond (is_text (text x) name) (Some (length xs)) None)
      by true is =
          let own : text x ≡ name = is_text_same (text x) name is in
          or_found (under name) _ (subst (λ n. is_some (under n) ≡ true) own known)
      by false is = or_nothing (under name) ∙ ap (λ b. or_else (under name) (cond b (Some (length xs)) None)) (sym is)

  -- an element whose name is new takes the next index
  pub new_name : (then : List ℕ → Option ℕ) (index : ℕ) → under (text x) ≡ None → index ≡ length xs →
      ((name : List ℕ) → then name ≡ cond (pointwise nat_eq (text x) name) (Some index) (under name)) →
      (name : List ℕ) → then name ≡ position (λ y. is_text (text y) name) after
  new_name then index none at is name =
      is name ∙ ap (λ t. cond t (Some index) (under name)) (pointwise-is_text (text x) name ∙ is_text_either name (text x))
      ∙ by (is_text (text x) name) refl ∙ sym (placed name)
    where
      by : (b : Bool) → is_text (text x) name ≡ b →
          cond (is_text (text x) name) (Some index) (under name) ≡ or_else (under name) (cond (is_text (text x) name) (Some (length xs)) None)
      by true same =
          let own : text x ≡ name = is_text_same (text x) name same in
          let free : under name ≡ None = subst (λ n. under n ≡ None) own none in
          ap (λ t. cond t (Some index) (under name)) same ∙ ap (λ n. Some n) at
          ∙ sym (ap (λ o. or_else o (cond (is_text (text x) name) (Some (length xs)) None)) free
          ∙ ap (λ t. cond t (Some (length xs)) None) same)
      by false other =
          ap (λ t. cond t (Some index) (under name)) other ∙ or_nothing (under name)
          ∙ ap (λ t. or_else (under name) (cond t (Some (length xs)) None)) (sym other)
