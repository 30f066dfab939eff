-- Numbered elements: one more of them, those a test keeps, their indices and their order.
use Rattle.std.proofs.Common.{◌≡◌, ℕ, ◌+◌, ◌<◌, ◌++◌, Bool, true, false, List, [], ◌∷◌, length, map, take, get_or, sym}
use Rattle.std.proofs.Common.{ap, ◌∙◌, arith, append-nil, refl, subst, inl, inr, cond, Some}
use Rattle.std.specs.Prelude.{AllPairs, Contains, filter, if◌then◌else◌, slice_get, suc, zero}
use Rattle.std.specs.List.{enumerate_from}
use Rattle.std.proofs.lemmas.Bool.{cond-false, cond-true}
use Rattle.std.proofs.lemmas.List.{length-take-le, map-append, take_more}
use Rattle.std.proofs.lemmas.List.Elements.{filter-append}
use Rattle.std.proofs.lemmas.Option.{same_Some}
use Rattle.cqf_lists.proofs.Members.{contains_cases, contains_from_map, contains_here, contains_later, contains_map, contains_none}
use Rattle.cqf_lists.proofs.Pairs.{pairs_cons, pairs_map, pairs_none, pairs_weaker}
use Rattle.cqf_lists.proofs.Indices.{enumerate_from-push}

module _ {X Y : Type 0} (with_number : ℕ × X → Y) (keep : Y → Bool) (xs : List X) (k : ℕ) (x d : X) (inside : k < length xs) (there : x ≡ get_or xs k d) where
  -- the first k elements, each with its number
  abbrev first : ℕ → List Y
  first count = map with_number (enumerate_from 1 (take count xs))

  -- what the filter keeps after one more element
  kept_more : filter keep (first (k + 1)) ≡ filter keep (first k) ++ (if keep (with_number (k + 1, x)) then with_number (k + 1, x) ∷ [] else [])
  kept_more =
      let count : 1 + length (take k xs) ≡ k + 1 = omega (arith, length-take-le k xs (omega (arith, inside))) in
      ap (filter keep) (ap (λ (ys : List X). map with_number (enumerate_from 1 ys)) (take_more xs k d inside ∙ ap (λ (y : X). take k xs ++ y ∷ []) (sym there))
      ∙ ap (map with_number) (enumerate_from-push 1 (take k xs) x)
      ∙ map-append with_number (enumerate_from 1 (take k xs)) ((1 + length (take k xs), x) ∷ [])
      ∙ ap (λ (n : ℕ). first k ++ with_number (n, x) ∷ []) count)
      ∙ filter-append keep (first k) (with_number (k + 1, x) ∷ [])

  -- the new element is kept
  pub one_kept : (list after : List Y) → keep (with_number (k + 1, x)) ≡ true → list ≡ filter keep (first k) → after ≡ list ++ with_number (k + 1, x) ∷ [] →
      after ≡ filter keep (first (k + 1))
  one_kept list after hit so_far more =
      let y = with_number (k + 1, x) in
      more ∙ ap (λ (ys : List Y). ys ++ y ∷ []) so_far
      ∙ ap (λ (ys : List Y). filter keep (first k) ++ ys) (sym (cond-true (keep y) (y ∷ []) [] hit)) ∙ sym kept_more

  -- the new element isn't kept
  pub one_passed : (list : List Y) → keep (with_number (k + 1, x)) ≡ false → list ≡ filter keep (first k) → list ≡ filter keep (first (k + 1))
  one_passed list miss so_far =
      let y = with_number (k + 1, x) in
      so_far ∙ sym (append-nil (filter keep (first k)))
      ∙ ap (λ (ys : List Y). filter keep (first k) ++ ys) (sym (cond-false (keep y) (y ∷ []) [] miss)) ∙ sym kept_more

-- each entry of a numbered list has the element at its number's index
pub enum_at : {X : Type 0} (n : ℕ) (xs : List X) (e : ℕ × X) → Contains (enumerate_from n xs) e → (k : ℕ) × (e.0 ≡ n + k) × (slice_get xs k ≡ Some e.1)
enum_at n [] e c = absurd (contains_none e c)
enum_at {X} n (x ∷ xs) e c = elim (contains_cases (n, x) (enumerate_from (n + 1) xs) e c) [
  | inl same ↦ (0, omega (arith, ap (λ (y : ℕ × X). y.0) same), ap (λ (y : ℕ × X). Some y.1) same)
  | inr h ↦ let r = enum_at (n + 1) xs e h in (suc r.0, omega (arith, r.1), r.2)
]

-- the element at an index is in the numbered list with its number
pub enum_there : {X : Type 0} (n k m : ℕ) (xs : List X) (x : X) → m ≡ n + k → slice_get xs k ≡ Some x → Contains (enumerate_from n xs) (m, x)
enum_there n k m [] x i e = absurd cc
enum_there {X} n zero m (y ∷ xs) x i e =
    let same : n ≡ m = omega (arith, i) in
    let is : y ≡ x = same_Some y x e in
    subst (λ (z : ℕ × X). Contains ((n, y) ∷ enumerate_from (n + 1) xs) z) (λ j. (same j, is j)) (contains_here (n, y) (enumerate_from (n + 1) xs))
enum_there n (suc k) m (y ∷ xs) x i e =
    contains_later (n, y) (enumerate_from (n + 1) xs) (m, x) (enum_there (n + 1) k m xs x (omega (arith, i)) e)

-- the numbers ascend
pub enum_pairs : {X : Type 0} (n : ℕ) (xs : List X) → AllPairs (λ (a b : ℕ × X). a.0 < b.0) (enumerate_from n xs)
enum_pairs {X} n [] = pairs_none (λ (a b : ℕ × X). a.0 < b.0)
enum_pairs {X} n (x ∷ xs) =
    pairs_cons (λ (a b : ℕ × X). a.0 < b.0) (n, x) (enumerate_from (n + 1) xs) (λ e c. let r = enum_at (n + 1) xs e c in omega (arith, r.1))
    (enum_pairs (n + 1) xs)

-- a test and a function that ignore the numbers
pub unnumbered : {X Y : Type 0} (f : X → Y) (p : X → Bool) (n : ℕ) (xs : List X) →
    map (λ (e : ℕ × X). f e.1) (filter (λ e. p e.1) (enumerate_from n xs)) ≡ map f (filter p xs)
unnumbered f p n [] = refl
unnumbered {X} {Y} f p n (x ∷ xs) = step (p x) (unnumbered f p (n + 1) xs)
  where
    -- one element, kept or not
    step : (b : Bool) → map (λ (e : ℕ × X). f e.1) (filter (λ e. p e.1) (enumerate_from (n + 1) xs)) ≡ map f (filter p xs) →
        map (λ (e : ℕ × X). f e.1) (cond b ((n, x) ∷ filter (λ e. p e.1) (enumerate_from (n + 1) xs)) (filter (λ e. p e.1) (enumerate_from (n + 1) xs)))
        ≡ map f (cond b (x ∷ filter p xs) (filter p xs))
    step true e = ap (λ (ys : List Y). f x ∷ ys) e
    step false e = e

-- the result for an element and its number is in the list of results
pub numbered_there : {X Y : Type 0} (with_number : ℕ × X → Y) (xs : List X) (index : ℕ) (x : X) → slice_get xs index ≡ Some x →
    Contains (map with_number (enumerate_from 1 xs)) (with_number (index + 1, x))
numbered_there with_number xs index x e =
    contains_map with_number (enumerate_from 1 xs) (index + 1, x) (enum_there 1 index (index + 1) xs x (omega arith) e)

-- an element is at the index that the number in its result gives
pub record StandsAt {X Y : Type 0} (number : Y → ℕ) (element : Y → X) (xs : List X) (y : Y) : Type 0 where
  pub index : ℕ
  pub numbered : number y ≡ index + 1
  pub is_there : slice_get xs index ≡ Some (element y)

-- results for each element and its number, from which both can be recovered
module _ {X Y : Type 0} (with_number : ℕ × X → Y) (number : Y → ℕ) (element : Y → X)
    (numbers : (e : ℕ × X) → number (with_number e) ≡ e.0) (elements : (e : ℕ × X) → element (with_number e) ≡ e.1) (xs : List X) where
  -- the element is at its number's index
  pub numbered_at : (y : Y) → Contains (map with_number (enumerate_from 1 xs)) y → StandsAt number element xs y
  numbered_at y c =
      let w = contains_from_map with_number (enumerate_from 1 xs) y c in
      let r = enum_at 1 xs w.0 w.1 in
      let own : w.0.0 ≡ number y = sym (numbers w.0) ∙ ap number w.2 in
      record { index = r.0; numbered = omega (arith, own, r.1); is_there = r.2 ∙ ap (λ (x : X). Some x) (sym (elements w.0) ∙ ap element w.2) }

  -- the results are in the order of their numbers
  pub numbered_pairs : AllPairs (λ (a b : Y). number a < number b) (map with_number (enumerate_from 1 xs))
  numbered_pairs =
      pairs_map (λ (a b : Y). number a < number b) with_number (enumerate_from 1 xs)
      (pairs_weaker (λ (a b : ℕ × X). a.0 < b.0) (λ (a b : ℕ × X). number (with_number a) < number (with_number b)) (enumerate_from 1 xs)
      (λ a b ca cb l. omega (arith, l, numbers a, numbers b)) (enum_pairs 1 xs))
