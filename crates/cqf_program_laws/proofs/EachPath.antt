-- Counts of elements of lists, if each list has at most one element that counts.
use Rattle.std.proofs.Common.{◌≡◌, ◌∙◌, ◌+◌, ◌∷◌, ◌≤◌, [], ℕ, Bool, true, false, Contains, List, ap, arith, count_by, filter, if◌then◌else◌, inl, inr, refl, sum_by, sym, zero-add}
use Rattle.std.specs.Prelude.{◌||◌}
use Rattle.std.specs.List.{flat_map, list_any}
use Rattle.std.proofs.lemmas.Bool.{cases_Bool}
use Rattle.std.proofs.lemmas.List.Sums.{sum_by-cons}
use Rattle.cqf_lists.proofs.Members.{contains_from_filter}
use Rattle.cqf_lists.proofs.Sums.{sum_filter, sum_flat, sum_none}
use Rattle.cqf_program_laws.proofs.Balance.{one_if, sum_same}

-- how often a test passes, as a sum
abbrev passed : {X : Type 0} → (X → Bool) → List X → ℕ
passed {X} p xs = sum_by (λ (x : X). one_if (p x)) xs

-- a test that passes at most once passes as often as at some element
any_once : {X : Type 0} (p : X → Bool) (xs : List X) → passed p xs ≤ 1 → one_if (list_any p xs) ≡ passed p xs
any_once p [] few = refl
any_once {X} p (x ∷ xs) few =
    let first = sum_by-cons (λ (y : X). one_if (p y)) x xs in
    elim (cases_Bool (p x)) [
      | inl t ↦
          let any : one_if (list_any p (x ∷ xs)) ≡ 1 = ap (λ (b : Bool). one_if (b || list_any p xs)) t in
          let here : one_if (p x) ≡ 1 = ap one_if t in
          omega (arith, any, here, few, first)
      | inr f ↦
          let any : one_if (list_any p (x ∷ xs)) ≡ one_if (list_any p xs) = ap (λ (b : Bool). one_if (b || list_any p xs)) f in
          let here : one_if (p x) ≡ 0 = ap one_if f in
          let fewer : passed p xs ≤ 1 = omega (arith, few, here, first) in
          omega (arith, any, here, first, any_once p xs fewer)
    ]

-- one of four tests
one_of_four : (a b c e : Bool) → one_if a + one_if b + one_if c + one_if e ≡ 1 → count_by (λ (ends : Bool). ends) (a ∷ b ∷ c ∷ e ∷ []) ≡ 1
one_of_four a b c e h = ap (λ (n : ℕ). n + one_if b + one_if c + one_if e) (zero-add (one_if a)) ∙ h

-- the lists of some elements, in which a test says for each element whether its list's are to be counted
module _ {X Y : Type 0} (here reported : X → List Y) (xs : List X) (ran own : X → Bool) (mine : Y → Bool)
    (belong : (x : X) (y : Y) → Contains (here x) y → mine y ≡ own x) (idle : (x : X) → ran x ≡ false → here x ≡ [])
    (same : (x : X) → Contains xs x → ran x ≡ true → reported x ≡ here x) where
  -- the elements that are counted
  abbrev counted : List X
  counted = filter own (filter ran xs)

  -- a test that passes at most once in each list
  abbrev pub IsRare : (Y → Bool) → Type 0
  IsRare p = (x : X) → Contains xs x → ran x ≡ true → own x ≡ true → count_by p (here x) ≤ 1

  passes_once : (p : Y → Bool) → IsRare p → (x : X) → Contains xs x → ran x ≡ true → own x ≡ true → one_if (list_any p (reported x)) ≡ passed p (here x)
  passes_once p rare x inside on is = ap (λ (ys : List Y). one_if (list_any p ys)) (same x inside on) ∙ any_once p (here x) (rare x inside on is)

  one_passes : (p : Y → Bool) → IsRare p → (x : X) → Contains xs x →
      sum_by (λ (y : Y). if mine y then one_if (p y) else 0) (here x) ≡ (if ran x then (if own x then one_if (list_any p (reported x)) else 0) else 0)
  one_passes p rare x inside =
      sum_same (λ (y : Y). if mine y then one_if (p y) else 0) (λ (y : Y). if own x then one_if (p y) else 0) (here x)
      (λ y c. ap (λ (b : Bool). if b then one_if (p y) else 0) (belong x y c))
      ∙ by (own x) refl (ran x) refl
    where
      by : (o : Bool) → own x ≡ o → (r : Bool) → ran x ≡ r →
          sum_by (λ (y : Y). if o then one_if (p y) else 0) (here x) ≡ (if r then (if o then one_if (list_any p (reported x)) else 0) else 0)
      by o is false off = ap (λ (ys : List Y). sum_by (λ (y : Y). if o then one_if (p y) else 0) ys) (idle x off)
      by true is true on = sym (passes_once p rare x inside on is)
      by false is true on = sum_none (λ (y : Y). 0) (here x) (λ y c. refl)

  -- it passes as often as there are elements in whose list it passes
  pub counts_elements : (p : Y → Bool) → IsRare p → count_by p (filter mine (flat_map here xs)) ≡ count_by (λ (x : X). list_any p (reported x)) counted
  counts_elements p rare =
      sum_filter (λ (y : Y). one_if (p y)) mine (flat_map here xs)
      ∙ sum_flat (λ (y : Y). if mine y then one_if (p y) else 0) here xs
      ∙ sum_same (λ (x : X). sum_by (λ (y : Y). if mine y then one_if (p y) else 0) (here x))
      (λ (x : X). if ran x then (if own x then one_if (list_any p (reported x)) else 0) else 0) xs
      (λ x c. one_passes p rare x c)
      ∙ sym (sum_filter (λ (x : X). if own x then one_if (list_any p (reported x)) else 0) ran xs)
      ∙ sym (sum_filter (λ (x : X). one_if (list_any p (reported x))) own (filter ran xs))

  -- of four tests that together pass once in each list, each passes at most once, and one of them passes for each element
  module _ (a b c e : Y → Bool) (four : (x : X) → Contains xs x → ran x ≡ true → own x ≡ true →
      count_by a (here x) + count_by b (here x) + count_by c (here x) + count_by e (here x) ≡ 1) where
    pub first_rare : IsRare a
    first_rare x inside on is = omega (arith, four x inside on is)

    pub second_rare : IsRare b
    second_rare x inside on is = omega (arith, four x inside on is)

    pub third_rare : IsRare c
    third_rare x inside on is = omega (arith, four x inside on is)

    pub fourth_rare : IsRare e
    fourth_rare x inside on is = omega (arith, four x inside on is)

    pub one_of_them : (x : X) → Contains counted x →
        count_by (λ (ends : Bool). ends) (list_any a (reported x) ∷ list_any b (reported x) ∷ list_any c (reported x) ∷ list_any e (reported x) ∷ []) ≡ 1
    one_of_them x among =
        let is = contains_from_filter own (filter ran xs) x among in
        let on = contains_from_filter ran xs x is.0 in
        one_of_four (list_any a (reported x)) (list_any b (reported x)) (list_any c (reported x)) (list_any e (reported x))
        (sum_four (passes_once a first_rare x on.0 on.1 is.1) (passes_once b second_rare x on.0 on.1 is.1)
        (passes_once c third_rare x on.0 on.1 is.1) (passes_once e fourth_rare x on.0 on.1 is.1) (four x on.0 on.1 is.1))
      where
        sum_four : {k l m n p q r s : ℕ} → k ≡ p → l ≡ q → m ≡ r → n ≡ s → p + q + r + s ≡ 1 → k + l + m + n ≡ 1
        sum_four f g h i all = omega (arith, f, g, h, i, all)
