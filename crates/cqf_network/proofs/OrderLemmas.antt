-- Which of two paths of one length comes before the other.
use Rattle.std.proofs.Common.{◌≡◌, ◌∙◌, ◌<◌, ◌≤◌, ◌⊎◌, ℕ, true, false, List, [], ◌∷◌, ◌++◌, length, refl, sym, ap, subst, inl, inr, arith}
use Rattle.std.proofs.lemmas.Bool.Decides.{nat_tests}
use Rattle.cqf_network.specs.Steps.{is_before}

-- lists that are longer by one have the same length before
shorter : (x y : ℕ) (xs ys : List ℕ) → length (x ∷ xs) ≡ length (y ∷ ys) → length xs ≡ length ys
shorter x y xs ys e = omega (arith, e)

-- which of two steps is the lower
compared : (x y : ℕ) → (x ≡ y) ⊎ ((x < y) ⊎ (y < x))
compared x y = grind arith

-- of two steps alone, one that isn't the lower doesn't come before
pub higher_alone : (x y : ℕ) → y ≤ x → is_before (x ∷ []) (y ∷ []) ≡ false
higher_alone x y l = grind (arith, nat_tests)

-- by the first steps: they are the same, or else the first is the lower
before_same : (x : ℕ) (xs ys : List ℕ) → is_before (x ∷ xs) (x ∷ ys) ≡ is_before xs ys
before_same x xs ys = grind (arith, nat_tests)

before_lower : (x y : ℕ) (xs ys : List ℕ) → x < y → is_before (x ∷ xs) (y ∷ ys) ≡ true
before_lower x y xs ys l = grind (arith, nat_tests)

before_higher : (x y : ℕ) (xs ys : List ℕ) → y < x → is_before (x ∷ xs) (y ∷ ys) ≡ false
before_higher x y xs ys l = grind (arith, nat_tests)

-- a path that doesn't come before another of its length is the same, or comes after it
pub same_or_after : (xs ys : List ℕ) → length xs ≡ length ys → is_before xs ys ≡ false → (xs ≡ ys) ⊎ (is_before ys xs ≡ true)
same_or_after [] [] e b = inl refl
same_or_after [] (y ∷ ys) e b = absurd (omega (arith, e))
same_or_after (x ∷ xs) [] e b = absurd (omega (arith, e))
same_or_after (x ∷ xs) (y ∷ ys) e b = elim (compared x y) [
  | inl same ↦ subst (λ (z : ℕ). (x ∷ xs ≡ z ∷ ys) ⊎ (is_before (z ∷ ys) (x ∷ xs) ≡ true)) same
      (elim (same_or_after xs ys (shorter x y xs ys e) (sym (before_same x xs ys) ∙ ap (λ z. is_before (x ∷ xs) (z ∷ ys)) same ∙ b)) [
        | inl all ↦ inl (ap (λ zs. x ∷ zs) all)
        | inr following ↦ inr (before_same x ys xs ∙ following)
      ])
  | inr apart ↦ elim apart [
    | inl lower ↦ absurd (let t = before_lower x y xs ys lower in cc)
    | inr higher ↦ inr (before_lower y x ys xs higher)
  ]
]

-- one that comes before another doesn't come after it, regardless of what is appended to both
pub stays_before : (xs ys more rest : List ℕ) → length xs ≡ length ys → is_before xs ys ≡ true → is_before (ys ++ more) (xs ++ rest) ≡ false
stays_before [] ys more rest e b = absurd cc
stays_before (x ∷ xs) [] more rest e b = absurd cc
stays_before (x ∷ xs) (y ∷ ys) more rest e b = elim (compared x y) [
  | inl same ↦ subst (λ (z : ℕ). is_before (z ∷ (ys ++ more)) (x ∷ (xs ++ rest)) ≡ false) same
      (before_same x (ys ++ more) (xs ++ rest)
      ∙ stays_before xs ys more rest (shorter x y xs ys e) (sym (before_same x xs ys) ∙ ap (λ z. is_before (x ∷ xs) (z ∷ ys)) same ∙ b))
  | inr apart ↦ elim apart [
    | inl lower ↦ before_higher y x (ys ++ more) (xs ++ rest) lower
    | inr higher ↦ absurd (let t = before_higher x y xs ys higher in cc)
  ]
]

-- and comes before it still
pub before_stays : (xs ys more rest : List ℕ) → length xs ≡ length ys → is_before xs ys ≡ true → is_before (xs ++ more) (ys ++ rest) ≡ true
before_stays [] ys more rest e b = absurd cc
before_stays (x ∷ xs) [] more rest e b = absurd cc
before_stays (x ∷ xs) (y ∷ ys) more rest e b = elim (compared x y) [
  | inl same ↦ subst (λ (z : ℕ). is_before (x ∷ (xs ++ more)) (z ∷ (ys ++ rest)) ≡ true) same
      (before_same x (xs ++ more) (ys ++ rest)
      ∙ before_stays xs ys more rest (shorter x y xs ys e) (sym (before_same x xs ys) ∙ ap (λ z. is_before (x ∷ xs) (z ∷ ys)) same ∙ b))
  | inr apart ↦ elim apart [
    | inl lower ↦ before_lower x y (xs ++ more) (ys ++ rest) lower
    | inr higher ↦ absurd (let t = before_higher x y xs ys higher in cc)
  ]
]

-- after a common beginning, what follows decides
pub before_after : (front xs ys : List ℕ) → is_before (front ++ xs) (front ++ ys) ≡ is_before xs ys
before_after [] xs ys = refl
before_after (f ∷ front) xs ys = before_same f (front ++ xs) (front ++ ys) ∙ before_after front xs ys

-- none comes before itself
pub not_before_itself : (xs : List ℕ) → is_before xs xs ≡ false
not_before_itself [] = refl
not_before_itself (x ∷ xs) = before_same x xs xs ∙ not_before_itself xs
